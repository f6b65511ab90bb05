-- A talk of the two machines is an execution from empty wires to empty wires.
--   talk_then            one talk after another
--   hand_up, hand_down   bytes that one gives and the other takes
--   exchange             a question up and an answer down
--   talk_sides           each of the two makes moves of its own
--   talk_exec            the talk over wires that hold at least a byte
--   stuck                with empty wires nothing moves where neither owes
--   closed               where the client rests all is done, if the end has an empty wire down and no byte taken leads the server there
use Prim.Native.Nat.{ℕ, ◌<◌}
use mathlib.Core.Path.{◌≡◌, refl, ap, ◌∙◌}
use mathlib.Core.Bool.{false}
use mathlib.Core.List.{List, [], ◌∷◌, ◌++◌, append-nil}
use native.Mathlib.Omega.{arith}
use lib.ListN.{length, length-append}
use Rattle.machine.specs.Machine.{Turn, rests, owes, Moves, still, by_give, by_take}
use Rattle.machine.specs.Traffic.{Traffic, talk_bytes, no_bytes}
use Rattle.machine.specs.Wires.{Sys, sys, the_client, the_server, wire_down, client, server, client_gives, client_takes, server_gives, server_takes, Exec, done, next, Stuck, Talk, silent, up, down, Fresh}

module _ {C S : Type 0} {turnC : C → Turn C} {turnS : S → Turn S} where
  pub talk_then : {us vs ds es : List ℕ} {c c' c'' : C} {s s' s'' : S} → Talk turnC turnS us ds c s c' s' → Talk turnC turnS vs es c' s' c'' s''
      → Talk turnC turnS (us ++ vs) (ds ++ es) c s c'' s''
  talk_then silent q = q
  talk_then (up e f p) q = up e f (talk_then p q)
  talk_then (down e f p) q = down e f (talk_then p q)

  pub hand_up : {os : List ℕ} {c c' : C} {s s' : S} → Moves turnC c [] os c' → Moves turnS s os [] s' → Talk turnC turnS os [] c s c' s'
  hand_up still still = silent
  hand_up (by_give e p) (by_take f q) = up e f (hand_up p q)

  pub hand_down : {is : List ℕ} {c c' : C} {s s' : S} → Moves turnC c is [] c' → Moves turnS s [] is s' → Talk turnC turnS [] is c s c' s'
  hand_down still still = silent
  hand_down (by_take e p) (by_give f q) = down e f (hand_down p q)

  pub exchange : {us ds : List ℕ} {c₁ c₂ c₃ : C} {s₁ s₂ s₃ : S} → Moves turnC c₁ [] us c₂ → Moves turnS s₁ us [] s₂ → Moves turnC c₂ ds [] c₃ → Moves turnS s₂ [] ds s₃
      → Talk turnC turnS us ds c₁ s₁ c₃ s₃
  exchange {us = us} p q r s = rw (append-nil us) at (talk_then (hand_up p q) (hand_down r s))

  pub talk_sides : {us ds : List ℕ} {c c' : C} {s s' : S} → Talk turnC turnS us ds c s c' s' → Moves turnC c ds us c' × Moves turnS s us ds s'
  talk_sides silent = (still, still)
  talk_sides (up e f p) = let i = talk_sides p in (by_give e i.0, by_take f i.1)
  talk_sides (down e f p) = let i = talk_sides p in (by_take e i.0, by_give f i.1)

  module _ {cu cd : ℕ} (hu : 0 < cu) (hd : 0 < cd) where
    pub talk_exec : {us ds : List ℕ} {c c' : C} {s s' : S} → Talk turnC turnS us ds c s c' s'
        → Exec turnC turnS cu cd (talk_bytes us ds) (sys c s [] []) (sys c' s' [] [])
    talk_exec silent = done
    talk_exec (up e f p) = next (client_gives e hu) (next (server_takes f) (talk_exec p))
    talk_exec (down e f p) = next (server_gives f hd) (next (client_takes e) (talk_exec p))

  pub stuck : {cu cd : ℕ} {c : C} {s : S} → owes (turnC c) ≡ false → owes (turnS s) ≡ false → Stuck turnC turnS cu cd (sys c s [] [])
  stuck p q client b y (client_gives e h) = absurd (let z : ◌≡◌ {A = ℕ} 0 1 = cc (ap owes e) in omega arith)
  stuck p q server b y (server_gives e h) = absurd (let z : ◌≡◌ {A = ℕ} 0 1 = cc (ap owes e) in omega arith)

  pub closed : {cu cd : ℕ} {a : Traffic} {x t : Sys C S} → Exec turnC turnS cu cd a x t → turnC (the_client x) ≡ rests → wire_down t ≡ [] → Fresh turnS (the_server t)
      → (x ≡ t) × (a ≡ no_bytes)
  closed done r w f = (refl, refl)
  closed (next (client_gives e h) p) r w f = absurd (let z : ◌≡◌ {A = ℕ} 0 1 = cc in omega arith)
  closed (next (client_takes e) p) r w f = absurd (let z : ◌≡◌ {A = ℕ} 0 1 = cc in omega arith)
  closed (next (server_gives {d = d} {b = b} e h) p) r w f =
      let i = closed p r w f in
      absurd (omega (arith, length-append d (b ∷ []), ap length (ap wire_down i.0 ∙ w)))
  closed (next (server_takes {s = s} {b = b} {k = k} e) p) r w f = let i = closed p r w f in absurd (f s k b e (ap the_server i.0))
