-- What one machine moves is an execution, whatever else stands on the wires.
--   front                        what a piece on a first part of a wire takes is the wire's first bytes, and the counts are lengths
--   exec_then                    one execution after another
--   client_piece, server_piece   moves of one of the two, with its bytes in on the wire and space for its bytes out
--   client_goes, server_goes     a piece of a session on a first part of the wire in, with a room that the wire out has space for
use Prim.Native.Nat.{ℕ, ◌+◌, ◌≤◌}
use mathlib.Core.Path.{◌≡◌}
use mathlib.Core.List.{List, [], ◌∷◌, ◌++◌, append_assoc, append-nil}
use native.Mathlib.Omega.{arith}
use lib.ListN.{length, take, drop, length-append, take-append-drop}
use Rattle.machine.specs.Machine.{Turn, Moves, still, by_give, by_take}
use Rattle.machine.specs.Pieces.{Goes}
use Rattle.machine.specs.Traffic.{Traffic, client_bytes, server_bytes, append}
use Rattle.machine.specs.Wires.{Sys, sys, client_gives, client_takes, Exec, done, next}
use Rattle.machine.proofs.Lists.{take_within}
use Rattle.machine.proofs.Runs.{taken_length, given_length}
use Rattle.machine.proofs.Traffic.{append_append}
use Rattle.machine.proofs.Swap.{swapped}

pub front : {X : Type 0} {turn : X → Turn X} {x y : X} {room room' : List ℕ} {taken given : ℕ} (n : ℕ) (wire : List ℕ)
    → Goes turn x (take n wire) room taken given y room'
    → (take taken (take n wire) ≡ take taken wire) × (length (take taken wire) ≡ taken) × (length (take given room') ≡ given)
front {taken = taken} n wire g =
    let f = take_within taken n wire g.within_input in
    (f, rw f at (taken_length g), given_length g)

module _ {C S : Type 0} {turnC : C → Turn C} {turnS : S → Turn S} {cu cd : ℕ} where
  pub exec_then : {a b : Traffic} {x y z : Sys C S} → Exec turnC turnS cu cd a x y → Exec turnC turnS cu cd b y z → Exec turnC turnS cu cd (append a b) x z
  exec_then done q = q
  exec_then {b = b} (next {a = m} {b = a} e p) q = rw (append_append m a b) (next e (exec_then p q))

  pub client_piece : {c c' : C} {is os : List ℕ} {s : S} {u d : List ℕ} → Moves turnC c is os c' → length u + length os ≤ cu
      → Exec turnC turnS cu cd (client_bytes is os) (sys c s u (is ++ d)) (sys c' s (u ++ os) d)
  client_piece {u = u} still h = rw (append-nil u) done
  client_piece {s = s} {u = u} {d = d} (by_give {b = b} {is = is} {os = os} e p) h =
      let l : length (u ++ b ∷ []) ≡ length u + 1 = length-append u (b ∷ []) in
      next (client_gives {u = u} e (omega arith)) (rw (append_assoc u (b ∷ []) os) at (client_piece {s = s} {u = u ++ b ∷ []} {d = d} p (omega arith)))
  client_piece (by_take e p) h = next (client_takes e) (client_piece p h)

  pub client_goes : (n : ℕ) {c c' : C} {s : S} {u d room room' : List ℕ} {taken given : ℕ} → Goes turnC c (take n d) room taken given c' room'
      → length u + length room ≤ cu
      → Exec turnC turnS cu cd (client_bytes (take taken d) (take given room')) (sys c s u d) (sys c' s (u ++ take given room') (drop taken d))
  client_goes n {s = s} {u = u} {d = d} {room = room} {room' = room'} {taken = taken} {given = given} g h =
      let f = front n d g in
      rw (take-append-drop taken d) at (client_piece {s = s} {u = u} {d = drop taken d} (rw f.0 at g.moves) (omega (arith, f.2, g.within_room)))

module _ {C S : Type 0} {turnC : C → Turn C} {turnS : S → Turn S} {cu cd : ℕ} where
  pub server_piece : {c : C} {is os : List ℕ} {s s' : S} {u d : List ℕ} → Moves turnS s is os s' → length d + length os ≤ cd
      → Exec turnC turnS cu cd (server_bytes is os) (sys c s (is ++ u) d) (sys c s' u (d ++ os))
  server_piece {c = c} {u = u} {d = d} p h = swapped (client_piece {turnS = turnC} {cd = cu} {s = c} {u = d} {d = u} p h)

  pub server_goes : (n : ℕ) {c : C} {s s' : S} {u d room room' : List ℕ} {taken given : ℕ} → Goes turnS s (take n u) room taken given s' room'
      → length d + length room ≤ cd
      → Exec turnC turnS cu cd (server_bytes (take taken u) (take given room')) (sys c s u d) (sys c s' (drop taken u) (d ++ take given room'))
  server_goes n {c = c} {u = u} {d = d} g h = swapped (client_goes {turnS = turnC} {cd = cu} n {s = c} {u = d} {d = u} g h)
