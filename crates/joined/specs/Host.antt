-- A fair host of the code: it visits each of the two again and again, and makes the next call, the handshake first, before it visits a client that
-- has nothing open.
--   Made     no call is to be made before the client is visited
--   Visits    so many visits of the client and so many of the server, in any order, and calls
--   Rounds   so many rounds, in each of which both are visited
use Rattle.std.specs.Prelude.{ℕ, suc, ◌<◌, ◌≡◌, List, [], ◌∷◌, length, take}
use Rattle.machine.specs.Rounds.{Room}
use Rattle.server.specs.Contract.{Serves}
use Rattle.server.specs.declared.state.Server.{Server}
use Rattle.server.specs.Answers as served
use Rattle.client.specs.Session as client
use Rattle.client.specs.View.{view}
use Rattle.client.specs.Contract.{shaken, Drives}
use Rattle.client.specs.declared.state.Client.{Client}
use Rattle.client.specs.Answers.{Called}
use Rattle.client.specs.Answers as driven
use Rattle.wire.specs.Results.{Result}
use Rattle.joined.specs.Disk.{Call}
use Rattle.joined.specs.Code.{Code, joint, calls, buffer, client_at, server_at, call_at, Ready}

pub record Made (c : Client) (ks : List Call) : Type 0 where
  pub called : view c ≡ client.Blank → ⊥
  pub none_left : Ready c → ks ≡ []

-- A visit is a step on some bytes of the wire in, if there are any, with some room where the wire out has space.
pub data Visits (t : List ℕ) (cu cd : ℕ) : ℕ → ℕ → Code → Code → Type 0 where
  stop : {x : Code} → Visits t cu cd 0 0 x x
  client_visit : {c : Client} {m : List ℕ} {ks : List Call} {rs : List Result} {s : Server} {img u d : List ℕ} {z : Code} {i j : ℕ}
      (n : ℕ) (room : List ℕ) (r : driven.Stepped) (m' room' : List ℕ) → 0 < n → Room cu u room → Made c ks
      → Drives c m (take n d) room r m' room'
      → Visits t cu cd i j (client_at ks rs s img u d r m' room') z
      → Visits t cu cd (suc i) j (joint c m ks rs s img u d) z
  server_visit : {c : Client} {m : List ℕ} {ks : List Call} {rs : List Result} {s : Server} {img u d : List ℕ} {z : Code} {i j : ℕ}
      (n : ℕ) (room : List ℕ) (r : served.Stepped) (img' room' : List ℕ) → 0 < n → Room cd d room → Serves s t img (take n u) room r img' room'
      → Visits t cu cd i j (server_at c m ks rs u d r img' room') z
      → Visits t cu cd i (suc j) (joint c m ks rs s img u d) z
  shake : {c : Client} {m : List ℕ} {ks : List Call} {rs : List Result} {s : Server} {img u d : List ℕ} {z : Code} {i j : ℕ}
      (r : Called) → view c ≡ client.Blank → r ≡ shaken (length m) c
      → Visits t cu cd i j (call_at ks rs s img u d m r) z
      → Visits t cu cd i j (joint c m ks rs s img u d) z
  call : {c : Client} {m : List ℕ} {ks : List Call} {rs : List Result} {s : Server} {img u d : List ℕ} {z : Code} {i j : ℕ}
      (k : Call) (r : Called) → Ready c → r ≡ calls k c
      → Visits t cu cd i j (call_at ks rs s img u d (buffer k) r) z
      → Visits t cu cd i j (joint c m (k ∷ ks) rs s img u d) z

pub data Rounds (t : List ℕ) (cu cd : ℕ) : ℕ → Code → Code → Type 0 where
  no_round : {x : Code} → Rounds t cu cd 0 x x
  round : {i j k : ℕ} {x y z : Code} → Visits t cu cd (suc i) (suc j) x y → Rounds t cu cd k y z → Rounds t cu cd (suc k) x z
