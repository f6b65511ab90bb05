-- A talk whose client comes to its end by a byte taken is over as soon as the client rests: the server, too, has nothing left to take.
--   Closes        moves of which the last is a byte given
--   given_all     who has given all of it has taken all that comes before
--   talk_closes   in such a talk the server's moves are of that kind
--   talk_over     so where the client rests, all of the talk is said, and nothing else
use Prim.Native.Nat.{ℕ, ◌<◌}
use mathlib.Core.Path.{◌≡◌, refl, sym, ap, ◌∙◌}
use mathlib.Core.Logic.{◌⊎◌, inl, inr}
use mathlib.Core.Bool.{false}
use mathlib.Core.List.{List, [], ◌∷◌, ◌++◌, append-nil}
use native.Mathlib.Omega.{arith}
use Rattle.machine.specs.Machine.{Turn, gives, takes, rests, owes, Moves, still}
use Rattle.machine.specs.Machine as machine
use Rattle.machine.specs.Traffic.{Traffic, talk_bytes, no_bytes, append}
use Rattle.machine.specs.Wires.{Sys, sys, the_client, Exec, Talk, silent, up, down}
use Rattle.machine.proofs.Moves.{unmoved, resting}
use Rattle.machine.proofs.Traffic.{append_none}
use Rattle.machine.proofs.Outcome.{talk_midway}

-- ---- lists
none_left : (l r : List ℕ) → [] ≡ l ++ r → (l ≡ []) × (r ≡ [])
none_left [] r e = (refl, sym e)
none_left (x ∷ l) r e = absurd (let z : ◌≡◌ {A = ℕ} 0 1 = cc in omega arith)

nothing : (b : Traffic) → b.client_in ≡ [] → b.client_out ≡ [] → b.server_in ≡ [] → b.server_out ≡ [] → b ≡ no_bytes
nothing b p q r s =
    let whole : ◌≡◌ {A = Traffic} (record { client_in = b.client_in; client_out = b.client_out; server_in = b.server_in; server_out = b.server_out }) no_bytes =
    rw (p, q, r, s) in
    whole

module _ {X : Type 0} (turn : X → Turn X) where
  pub data Closes : X → List ℕ → List ℕ → X → Type 0 where
    last_give : {x y : X} {b : ℕ} → turn x ≡ gives b y → Closes x [] (b ∷ []) y
    then_give : {x y z : X} {b : ℕ} {is os : List ℕ} → turn x ≡ gives b y → Closes y is os z → Closes x is (b ∷ os) z
    then_take : {x z : X} {k : ℕ → X} {b : ℕ} {is os : List ℕ} → turn x ≡ takes k → Closes (k b) is os z → Closes x (b ∷ is) os z

module _ {X : Type 0} {turn : X → Turn X} where
  gives_some : {x z : X} {is os : List ℕ} → Closes turn x is os z → os ≡ [] → ⊥
  gives_some (last_give e) h = let z : ◌≡◌ {A = ℕ} 0 1 = cc in omega arith
  gives_some (then_give e p) h = let z : ◌≡◌ {A = ℕ} 0 1 = cc in omega arith
  gives_some (then_take e p) h = gives_some p h

  pub given_all : {x y z : X} {is js os rest : List ℕ} → Closes turn x is os z → Moves turn x js os y → is ≡ js ++ rest → rest ≡ []
  given_all {js = js} {rest = rest} (last_give e) q h = (none_left js rest h).1
  given_all (then_give {y = y₁} e p) (machine.by_give {y = y₂} f q) h = let s : y₂ ≡ y₁ = cc in given_all p (rw s at q) h
  given_all (then_give e p) (machine.by_take f q) h = absurd (let z : ◌≡◌ {A = ℕ} 0 1 = cc in omega arith)
  given_all (then_take e p) still h = absurd (gives_some p refl)
  given_all (then_take e p) (machine.by_give f q) h = absurd (let z : ◌≡◌ {A = ℕ} 0 1 = cc in omega arith)
  given_all {rest = rest} (then_take {k = k₁} {b = b} {is = is} e p) (machine.by_take {k = k₂} {b = c} {is = js} f q) h =
      let s : k₂ c ≡ k₁ b = cc in
      let t : is ≡ js ++ rest = cc in
      given_all p (rw s at q) t

module _ {C S : Type 0} {turnC : C → Turn C} {turnS : S → Turn S} where
  pub talk_closes : {us ds : List ℕ} {c c' : C} {s s' : S} → Talk turnC turnS us ds c s c' s' → ((x : C) (b : ℕ) → turnC x ≡ gives b c' → ⊥)
      → ((us ≡ []) × (ds ≡ []) × (c ≡ c') × (s ≡ s')) ⊎ Closes turnS s us ds s'
  talk_closes silent h = inl (refl, refl, refl, refl)
  talk_closes {c = c} {c' = c'} {s = s} {s' = s'} (up {b = b} {us = us} {ds = ds} {d = d} {k = k} e f p) h = by (talk_closes p h)
    where
      by : ((us ≡ []) × (ds ≡ []) × (d ≡ c') × (k b ≡ s')) ⊎ Closes turnS (k b) us ds s'
          → (((b ∷ us) ≡ []) × (ds ≡ []) × (c ≡ c') × (s ≡ s')) ⊎ Closes turnS s (b ∷ us) ds s'
      by (inl w) = absurd (h c b (rw w.2 at e))
      by (inr w) = inr (then_take f w)
  talk_closes {c = c} {c' = c'} {s = s} {s' = s'} (down {b = b} {us = us} {ds = ds} {t = t} {k = k} e f p) h = by (talk_closes p h)
    where
      by : ((us ≡ []) × (ds ≡ []) × (k b ≡ c') × (t ≡ s')) ⊎ Closes turnS t us ds s'
          → ((us ≡ []) × ((b ∷ ds) ≡ []) × (c ≡ c') × (s ≡ s')) ⊎ Closes turnS s us (b ∷ ds) s'
      by (inl w) = inr (rw (w.0, w.1) (last_give (rw w.3 at f)))
      by (inr w) = inr (then_give f w)

  module _ {cu cd : ℕ} (hu : 0 < cu) (hd : 0 < cd) {us ds : List ℕ} {c c' : C} {s s' : S} (talk : Talk turnC turnS us ds c s c' s')
      (c-owes : owes (turnC c') ≡ false) (s-owes : owes (turnS s') ≡ false) (by_take : (x : C) (b : ℕ) → turnC x ≡ gives b c' → ⊥) where
    pub talk_over : {b : Traffic} {y : Sys C S} → Exec turnC turnS cu cd b (sys c s [] []) y → turnC (the_client y) ≡ rests
        → (y ≡ sys c' s' [] []) × (b ≡ talk_bytes us ds)
    talk_over {b = b} {y = sys cy sy u d} e r =
        let m = talk_midway hu hd talk c-owes s-owes e in
        let more = m.to_come in
        let f = resting r m.after.of_client in
        let down-none = none_left d more.server_out (sym (m.after.fifo_down ∙ ap (λ (l : List ℕ). l ++ []) f.0)) in
        let all-given : ds ≡ b.server_out = ap (λ (x : Traffic). x.server_out) m.parts ∙ ap (λ (l : List ℕ). b.server_out ++ l) down-none.1 ∙ append-nil b.server_out in
        let up_none : more.server_in ≡ [] = none_taken b.server_in more.server_in (ap (λ (x : Traffic). x.server_in) m.parts) (rw (sym all-given) at m.before.of_server) in
        let q : sy ≡ s' = unmoved (rw (up_none, down-none.1) at m.after.of_server) in
        let w : u ≡ [] = sym (append-nil u) ∙ ap (λ (l : List ℕ). u ++ l) (sym f.1) ∙ m.after.fifo_up ∙ append-nil more.server_in ∙ up_none in
        let z : more ≡ no_bytes = nothing more f.0 f.1 up_none down-none.1 in
        (rw (f.2, q, w, down-none.0), sym (m.parts ∙ ap (append b) z ∙ append_none b))
      where
        none_taken : (js rest : List ℕ) → us ≡ js ++ rest → {y : S} → Moves turnS s js ds y → rest ≡ []
        none_taken js rest h q = by (talk_closes talk by_take)
          where
            by : ((us ≡ []) × (ds ≡ []) × (c ≡ c') × (s ≡ s')) ⊎ Closes turnS s us ds s' → rest ≡ []
            by (inl w) = (none_left js rest (sym w.0 ∙ h)).1
            by (inr w) = given_all w q h
