-- A host that visits each of the two machines again and again comes to the end, after no more rounds than bytes are moved on the way.
--   client_carries, server_carries   a visit of one that can move moves a byte
--   visits_exec                      visits are an execution; where none moves a byte, no one that was visited can move
--   fair                             the end
use Prim.Native.Nat.{ℕ, zero, suc, ◌+◌, ◌≤◌, ◌<◌}
use mathlib.Core.Path.{◌≡◌, refl, sym, ap, ◌∙◌}
use mathlib.Core.List.{List, ◌∷◌}
use native.Mathlib.Omega.{arith}
use lib.ListN.{take, length-take}
use Rattle.machine.specs.Machine.{Turn, owes, wants}
use Rattle.machine.specs.Pieces.{Turns}
use Rattle.machine.specs.Traffic.{Traffic, client_bytes, server_bytes, no_bytes, append, total}
use Rattle.machine.specs.Wires.{Sys, sys, client, server, Move, client_gives, client_takes, server_gives, server_takes, Exec, done, next, Blocked, Stuck}
use Rattle.machine.specs.Rounds.{Room, Visited, Visits, no_visit, client_visit, server_visit, Rounds, no_round, round}
use Rattle.machine.proofs.Runs.{turns_gives, turns_takes}
use Rattle.machine.proofs.Traffic.{total_append}
use Rattle.machine.proofs.Confluence.{rejoin, stays}
use Rattle.machine.proofs.Swap.{swapped_move}
use Rattle.machine.proofs.Pieces.{front, exec_then, client_goes, server_goes}

-- where n moves are made, or else none is to come, fewer are to come than before
fewer : (n m k : ℕ) → n + m ≤ suc k → (n ≡ 0 → n + m ≡ 0) → m ≤ k
fewer zero m k p h = omega (arith, h refl)
fewer (suc n) m k p h = omega arith

module _ {C S : Type 0} {turnC : C → Turn C} {turnS : S → Turn S} {cu cd : ℕ} where
  both_blocked : {x : Sys C S} → Blocked turnC turnS cu cd client x → Blocked turnC turnS cu cd server x → Stuck turnC turnS cu cd x
  both_blocked p q client = p
  both_blocked p q server = q

  -- every move carries a byte
  exec_unmoved : {a : Traffic} {x y : Sys C S} → Exec turnC turnS cu cd a x y → total a ≡ 0 → x ≡ y
  exec_unmoved done e = refl
  exec_unmoved (next (client_gives p h) r) e = absurd (omega arith)
  exec_unmoved (next (client_takes p) r) e = absurd (omega arith)
  exec_unmoved (next (server_gives p h) r) e = absurd (omega arith)
  exec_unmoved (next (server_takes p) r) e = absurd (omega arith)

  pub client_carries : {n taken given : ℕ} {c c' : C} {s : S} {u d room room' : List ℕ} {b : Traffic} {y : Sys C S} → 0 < n → Room cu u room
      → Turns turnC c (take n d) room taken given c' room' → Move turnC turnS cu cd client b (sys c s u d) y → 0 < taken + given
  client_carries h r t (client_gives e k) = turns_gives t (ap owes e) (r.some k)
  client_carries {n = n} h r t (client_takes {d = d} {b = b} e) = turns_takes t (ap wants e) (omega (arith, length-take n (b ∷ d)))

module _ {C S : Type 0} {turnC : C → Turn C} {turnS : S → Turn S} {cu cd : ℕ} where
  pub server_carries : {n taken given : ℕ} {c : C} {s s' : S} {u d room room' : List ℕ} {b : Traffic} {y : Sys C S} → 0 < n → Room cd d room
      → Turns turnS s (take n u) room taken given s' room' → Move turnC turnS cu cd server b (sys c s u d) y → 0 < taken + given
  server_carries h r t m = client_carries h r t (swapped_move m)

  pub visits_exec : {i j : ℕ} {x y : Sys C S} → Visits turnC turnS cu cd i j x y → Visited turnC turnS cu cd i j x y
  visits_exec no_visit = record { bytes = no_bytes; exec = done; client_blocked = λ _ h. absurd (omega arith); server_blocked = λ _ h. absurd (omega arith) }
  visits_exec (client_visit {taken = taken} {given = given} {d = d} {room' = room'} n h r t v) =
      let p = client_goes n t.goes r.fits in
      let i = visits_exec v in
      let s = total_append (client_bytes (take taken d) (take given room')) i.bytes in
      let f = front n d t.goes in
      record {
        bytes = append (client_bytes (take taken d) (take given room')) i.bytes;
        exec = exec_then p i.exec;
        client_blocked = λ e _ b y m. omega (arith, client_carries h r t m);
        server_blocked = λ e. rw (exec_unmoved p (omega arith)) (i.server_blocked (omega arith));
      }
  visits_exec (server_visit {taken = taken} {given = given} {u = u} {room' = room'} n h r t v) =
      let p = server_goes n t.goes r.fits in
      let i = visits_exec v in
      let s = total_append (server_bytes (take taken u) (take given room')) i.bytes in
      let f = front n u t.goes in
      record {
        bytes = append (server_bytes (take taken u) (take given room')) i.bytes;
        exec = exec_then p i.exec;
        client_blocked = λ e. rw (exec_unmoved p (omega arith)) (i.client_blocked (omega arith));
        server_blocked = λ e _ b y m. omega (arith, server_carries h r t m);
      }

  pub fair : {k : ℕ} {a : Traffic} {x y t : Sys C S} → Exec turnC turnS cu cd a x t → Stuck turnC turnS cu cd t → total a ≤ k
      → Rounds turnC turnS cu cd k x y → y ≡ t
  fair e h l no_round = exec_unmoved e (omega arith)
  fair {a = a} e h l (round {k = k} v r) =
      let i = visits_exec v in
      let j = rejoin e h i.exec in
      let s : total a ≡ total i.bytes + total j.0 = ap total j.1 ∙ total_append i.bytes j.0 in
      let none-moved : total i.bytes ≡ 0 → total i.bytes + total j.0 ≡ 0 =
      λ z. sym s ∙ ap total (stays (both_blocked (i.client_blocked z (omega arith)) (i.server_blocked z (omega arith))) e).1 in
      fair j.2 h (fewer (total i.bytes) (total j.0) k (omega arith) none-moved) r
