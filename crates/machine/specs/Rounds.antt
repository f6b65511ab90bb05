-- A fair host: it visits each of two machines on two wires again and again.
--   Room     a room that a wire out has space for, and some where it has some
--   Visits   so many pieces of the client and so many of the server, in any order
--   Visited  what visits do
--   Rounds   so many rounds, in each of which both are visited
use Rattle.std.specs.Prelude.{ℕ, suc, ◌+◌, ◌≤◌, ◌<◌, ◌≡◌, List, ◌++◌, length, take, drop}
use Rattle.machine.specs.Machine.{Turn}
use Rattle.machine.specs.Pieces.{Turns}
use Rattle.machine.specs.Traffic.{Traffic, total}
use Rattle.machine.specs.Wires.{Sys, sys, client, server, Exec, Blocked}

pub record Room (cap : ℕ) (wire room : List ℕ) : Type 0 where
  pub fits : length wire + length room ≤ cap
  pub some : length wire < cap → 0 < length room

module _ {C S : Type 0} (turnC : C → Turn C) (turnS : S → Turn S) (cu cd : ℕ) where
  -- A visit is a piece on the first n bytes of the wire in, n above 0, that moves nothing only where nothing can move. A step is one.
  pub data Visits : ℕ → ℕ → Sys C S → Sys C S → Type 0 where
    no_visit : {x : Sys C S} → Visits 0 0 x x
    client_visit : {i j taken given : ℕ} {c c' : C} {s : S} {u d room room' : List ℕ} {z : Sys C S} (n : ℕ) → 0 < n → Room cu u room
        → Turns turnC c (take n d) room taken given c' room'
        → Visits i j (sys c' s (u ++ take given room') (drop taken d)) z → Visits (suc i) j (sys c s u d) z
    server_visit : {i j taken given : ℕ} {c : C} {s s' : S} {u d room room' : List ℕ} {z : Sys C S} (n : ℕ) → 0 < n → Room cd d room
        → Turns turnS s (take n u) room taken given s' room'
        → Visits i j (sys c s' (drop taken u) (d ++ take given room')) z → Visits i (suc j) (sys c s u d) z

  -- An execution from x; and if it carried no byte, then where the client was visited it cannot move, and the server likewise.
  pub record Visited (i j : ℕ) (x y : Sys C S) : Type 0 where
    pub bytes : Traffic
    pub exec : Exec turnC turnS cu cd bytes x y
    pub client_blocked : total bytes ≡ 0 → 0 < i → Blocked turnC turnS cu cd client x
    pub server_blocked : total bytes ≡ 0 → 0 < j → Blocked turnC turnS cu cd server x

  pub data Rounds : ℕ → Sys C S → Sys C S → Type 0 where
    no_round : {x : Sys C S} → Rounds 0 x x
    round : {i j k : ℕ} {x y z : Sys C S} → Visits (suc i) (suc j) x y → Rounds k y z → Rounds (suc k) x z
