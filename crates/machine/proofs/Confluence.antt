-- The moves of the client and of the server commute: if one execution ends where nothing can move, every execution ends there,
-- and each of the two has taken and given the same bytes.
--   diamond       the two can move in either order
--   rejoin        wherever an execution has come to, the end can be reached, and the bytes add up
--   progress      what has not come to the end can move
--   one_outcome   an execution that stops stops at the end, with the same bytes
use Prim.Native.Nat.{ℕ}
use mathlib.Core.Path.{◌≡◌, refl, sym, ap, ◌∙◌}
use mathlib.Core.Logic.{◌⊎◌, inl, inr}
use native.Mathlib.Omega.{arith}
use Rattle.machine.specs.Machine.{Turn}
use Rattle.machine.specs.Traffic.{Traffic, no_bytes, append}
use Rattle.machine.specs.Wires.{Sys, Who, client, server, Move, client_gives, client_takes, server_gives, server_takes, Exec, done, next, Stuck}
use Rattle.machine.proofs.Traffic.{append_none, append_append}

module _ {C S : Type 0} {turnC : C → Turn C} {turnS : S → Turn S} {cu cd : ℕ} where
  pub diamond : {a b : Traffic} {x y z : Sys C S} → Move turnC turnS cu cd client a x y → Move turnC turnS cu cd server b x z
      → (v : Sys C S) × Move turnC turnS cu cd server b y v × Move turnC turnS cu cd client a z v
  diamond (client_gives p h) (server_gives q k) = (_, server_gives q k, client_gives p h)
  diamond (client_gives p h) (server_takes {u = u} q) = (_, server_takes q, client_gives {u = u} p (omega arith))
  diamond (client_takes {d = d} p) (server_gives q k) = (_, server_gives {d = d} q (omega arith), client_takes p)
  diamond (client_takes p) (server_takes q) = (_, server_takes q, client_takes p)

  -- each of the two has one move
  one_client : {a b : Traffic} {x y z : Sys C S} → Move turnC turnS cu cd client a x y → Move turnC turnS cu cd client b x z → (a ≡ b) × (y ≡ z)
  one_client (client_gives p h) (client_gives q k) = (cc, cc)
  one_client (client_gives p h) (client_takes q) = absurd (let z : ◌≡◌ {A = ℕ} 0 1 = cc in omega arith)
  one_client (client_takes p) (client_gives q k) = absurd (let z : ◌≡◌ {A = ℕ} 0 1 = cc in omega arith)
  one_client (client_takes p) (client_takes q) = (cc, cc)

  one_server : {a b : Traffic} {x y z : Sys C S} → Move turnC turnS cu cd server a x y → Move turnC turnS cu cd server b x z → (a ≡ b) × (y ≡ z)
  one_server (server_gives p h) (server_gives q k) = (cc, cc)
  one_server (server_gives p h) (server_takes q) = absurd (let z : ◌≡◌ {A = ℕ} 0 1 = cc in omega arith)
  one_server (server_takes p) (server_gives q k) = absurd (let z : ◌≡◌ {A = ℕ} 0 1 = cc in omega arith)
  one_server (server_takes p) (server_takes q) = (cc, cc)

  -- bytes of the one and bytes of the other come in either order
  either_order : {a b : Traffic} {x y z v : Sys C S} → Move turnC turnS cu cd client a x y → Move turnC turnS cu cd server b z v → (c : Traffic)
      → append a (append b c) ≡ append b (append a c)
  either_order (client_gives p h) (server_gives q k) c = refl
  either_order (client_gives p h) (server_takes q) c = refl
  either_order (client_takes p) (server_gives q k) c = refl
  either_order (client_takes p) (server_takes q) c = refl

  -- two first moves: one and the same, or each can be followed by the other
  across : (w v : Who) {a b : Traffic} {x y z : Sys C S} → Move turnC turnS cu cd w a x y → Move turnC turnS cu cd v b x z
      → ((a ≡ b) × (y ≡ z))
      ⊎ ((q : Sys C S) × Move turnC turnS cu cd v b y q × Move turnC turnS cu cd w a z q × ((c : Traffic) → append a (append b c) ≡ append b (append a c)))
  across client client p q = inl (one_client p q)
  across server server p q = inl (one_server p q)
  across client server p q = let d = diamond p q in inr (d.0, d.1, d.2, either_order p q)
  across server client p q = let d = diamond q p in inr (d.0, d.2, d.1, λ c. sym (either_order q p c))

  -- any first move can be taken first on the way to a place where nothing can move
  strip : {a b : Traffic} {v : Who} {x y t : Sys C S} → Exec turnC turnS cu cd a x t → Stuck turnC turnS cu cd t → Move turnC turnS cu cd v b x y
      → (c : Traffic) × (a ≡ append b c) × Exec turnC turnS cu cd c y t
  strip {b = b} {v = v} {y = y} done h q = absurd (h v b y q)
  strip {b = b} {v = v} {y = y} {t = t} (next {a = m} {b = n} {w = w} {y = x'} p r) h q = go (across w v p q) (λ z q'. strip r h q')
    where
      go : ((m ≡ b) × (x' ≡ y))
          ⊎ ((z : Sys C S) × Move turnC turnS cu cd v b x' z × Move turnC turnS cu cd w m y z × ((c : Traffic) → append m (append b c) ≡ append b (append m c)))
          → ((z : Sys C S) → Move turnC turnS cu cd v b x' z → (c : Traffic) × (n ≡ append b c) × Exec turnC turnS cu cd c z t)
          → (c : Traffic) × (append m n ≡ append b c) × Exec turnC turnS cu cd c y t
      go (inl e) more = (n, ap (λ (i : Traffic). append i n) e.0, rw e.1 at r)
      go (inr d) more =
          let i = more d.0 d.1 in
          (append m i.0, ap (append m) i.1 ∙ d.3 i.0, next d.2 i.2)

  pub rejoin : {a b : Traffic} {x y t : Sys C S} → Exec turnC turnS cu cd a x t → Stuck turnC turnS cu cd t → Exec turnC turnS cu cd b x y
      → (c : Traffic) × (a ≡ append b c) × Exec turnC turnS cu cd c y t
  rejoin {a = a} e h done = (a, refl, e)
  rejoin {a = a} {t = t} e h (next {a = m} {b = n} q r) =
      let s = strip e h q in
      let i = rejoin {a = s.0} s.2 h r in
      (i.0, s.1 ∙ ap (append m) i.1 ∙ sym (append_append m n i.0), i.2)

  pub progress : {a : Traffic} {x t : Sys C S} → Exec turnC turnS cu cd a x t
      → (x ≡ t) ⊎ ((w : Who) × (b : Traffic) × (y : Sys C S) × Move turnC turnS cu cd w b x y)
  progress done = inl refl
  progress (next {a = b} {w = w} {y = y} p r) = inr (w, b, y, p)

  -- where nothing can move an execution goes nowhere
  pub stays : {a : Traffic} {x t : Sys C S} → Stuck turnC turnS cu cd x → Exec turnC turnS cu cd a x t → (x ≡ t) × (a ≡ no_bytes)
  stays h done = (refl, refl)
  stays h (next {a = b} {w = w} {y = y} p r) = absurd (h w b y p)

  pub one_outcome : {a b : Traffic} {x y t : Sys C S} → Exec turnC turnS cu cd a x t → Stuck turnC turnS cu cd t → Exec turnC turnS cu cd b x y
      → Stuck turnC turnS cu cd y → (y ≡ t) × (b ≡ a)
  one_outcome {b = b} e h f g =
      let r = rejoin e h f in
      let s = stays g r.2 in
      (s.0, sym (r.1 ∙ ap (append b) s.1 ∙ append_none b))
