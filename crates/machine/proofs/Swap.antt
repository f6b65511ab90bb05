-- The two machines are alike: with client and server, and the two wires, put in each other's place, a move is a move. So a law of the
-- client is one of the server.
--   swap, swap_bytes   in each other's place
--   swapped_move       a move
--   swapped            an execution
use Prim.Native.Nat.{ℕ}
use Rattle.machine.specs.Machine.{Turn}
use Rattle.machine.specs.Traffic.{Traffic}
use Rattle.machine.specs.Wires.{Sys, sys, Who, client, server, Move, client_gives, client_takes, server_gives, server_takes, Exec, done, next}

abbrev pub swap : {C S : Type 0} → Sys C S → Sys S C
swap (sys c s u d) = sys s c d u

abbrev pub swap_bytes : Traffic → Traffic
swap_bytes a = record { client_in = a.server_in; client_out = a.server_out; server_in = a.client_in; server_out = a.client_out }

abbrev pub other : Who → Who
other client = server
other server = client

module _ {C S : Type 0} {turnC : C → Turn C} {turnS : S → Turn S} {cu cd : ℕ} where
  pub swapped_move : {w : Who} {a : Traffic} {x y : Sys C S} → Move turnC turnS cu cd w a x y → Move turnS turnC cd cu (other w) (swap_bytes a) (swap x) (swap y)
  swapped_move (client_gives e h) = server_gives e h
  swapped_move (client_takes e) = server_takes e
  swapped_move (server_gives e h) = client_gives e h
  swapped_move (server_takes e) = client_takes e

  pub swapped : {a : Traffic} {x y : Sys C S} → Exec turnC turnS cu cd a x y → Exec turnS turnC cd cu (swap_bytes a) (swap x) (swap y)
  swapped done = done
  swapped (next e p) = next (swapped_move e) (swapped p)
