-- What an execution is to each of the two machines, and to the wires.
--   sides       each of the two has made moves of its own, and the wires are first in, first out
--   fifo        from empty wires: what one has given is what the other has taken, and then what is on the wire
--   capacity    no wire ever holds more than its capacity
--   midway      at every moment of every execution each of the two has made a first part of its moves on the whole way
use Prim.Native.Nat.{ℕ, ◌≤◌}
use mathlib.Core.Path.{◌≡◌, sym, ap, ◌∙◌}
use mathlib.Core.List.{List, [], ◌∷◌, ◌++◌, append-nil}
use native.Mathlib.Omega.{arith}
use lib.ListN.{length, length-append}
use lib.Seq.{append_snoc}
use Rattle.machine.specs.Machine.{Turn, still, by_give, by_take}
use Rattle.machine.specs.Traffic.{Traffic}
use Rattle.machine.specs.Wires.{Sys, sys, wire_up, wire_down, client_gives, client_takes, server_gives, server_takes, Exec, done, next, Stuck, Sides, Midway}
use Rattle.machine.proofs.Confluence.{rejoin}

module _ {C S : Type 0} {turnC : C → Turn C} {turnS : S → Turn S} {cu cd : ℕ} where
  pub sides : {a : Traffic} {x y : Sys C S} → Exec turnC turnS cu cd a x y → Sides turnC turnS a x y
  sides (done {x = x}) = record { of_client = still; of_server = still; fifo_up = append-nil (wire_up x); fifo_down = append-nil (wire_down x) }
  sides (next {b = a} (client_gives {u = u} {b = b} e h) p) =
      let i = sides p in
      record {
        of_client = by_give e i.of_client;
        of_server = i.of_server;
        fifo_up = sym (append_snoc u b a.client_out) ∙ i.fifo_up;
        fifo_down = i.fifo_down;
      }
  sides (next (client_takes {b = b} e) p) =
      let i = sides p in
      record {
        of_client = by_take e i.of_client;
        of_server = i.of_server;
        fifo_up = i.fifo_up;
        fifo_down = ap (λ (l : List ℕ). b ∷ l) i.fifo_down;
      }
  sides (next {b = a} (server_gives {d = d} {b = b} e h) p) =
      let i = sides p in
      record {
        of_client = i.of_client;
        of_server = by_give e i.of_server;
        fifo_up = i.fifo_up;
        fifo_down = sym (append_snoc d b a.server_out) ∙ i.fifo_down;
      }
  sides (next (server_takes {b = b} e) p) =
      let i = sides p in
      record {
        of_client = i.of_client;
        of_server = by_take e i.of_server;
        fifo_up = ap (λ (l : List ℕ). b ∷ l) i.fifo_up;
        fifo_down = i.fifo_down;
      }

  pub fifo : {a : Traffic} {c : C} {s : S} {y : Sys C S} → Exec turnC turnS cu cd a (sys c s [] []) y
      → (a.client_out ≡ a.server_in ++ wire_up y) × (a.server_out ≡ a.client_in ++ wire_down y)
  fifo e = let i = sides e in (i.fifo_up, i.fifo_down)

  pub capacity : {a : Traffic} {x y : Sys C S} → Exec turnC turnS cu cd a x y → length (wire_up x) ≤ cu → length (wire_down x) ≤ cd
      → (length (wire_up y) ≤ cu) × (length (wire_down y) ≤ cd)
  capacity done p q = (p, q)
  capacity (next (client_gives {u = u} {b = b} e h) r) p q = capacity r (omega (arith, length-append u (b ∷ []))) q
  capacity (next (client_takes e) r) p q = capacity r p (omega arith)
  capacity (next (server_gives {d = d} {b = b} e h) r) p q = capacity r p (omega (arith, length-append d (b ∷ [])))
  capacity (next (server_takes e) r) p q = capacity r (omega arith) q

  pub midway : {a b : Traffic} {x y t : Sys C S} → Exec turnC turnS cu cd a x t → Stuck turnC turnS cu cd t → Exec turnC turnS cu cd b x y
      → Midway turnC turnS cu cd a x b y t
  midway e h f =
      let r = rejoin e h f in
      record { to_come = r.0; parts = r.1; goes_on = r.2; before = sides f; after = sides r.2 }
