-- A client with calls to make, as one machine. The handshake is called at once, and each call is made as soon as the one before it is closed; one that
-- closes at once is passed by, so that every move of this machine carries a byte.
--   Driver        the client's state, what is lent to it, the calls left and the results so far; or the results of all
--   Begun, begin  what a call on a ready client leads to: it goes out, or it is closed at once
--   next          the next call that goes out
--   settle        where a client with calls left stands
--   drive         one byte
use Prim.Native.Nat.{ℕ}
use mathlib.Core.List.{List, [], ◌∷◌}
use Rattle.std.specs.Prelude.{Option, None, Some}
use lib.Dec.{eqb}
use lib.ListN.{length}
use Rattle.machine.specs.Choice.{pick}
use Rattle.machine.specs.Machine.{On, on, Turn, rests}
use Rattle.machine.specs.Follows.{through}
use Rattle.client.specs.Calls.{transfer, sought, amount, value_of, positioned}
use Rattle.client.specs.Session.{Magic, Asking, State, Blank, Shaking, Ready, Calling, Closed, Over, turn}
use Rattle.client.specs.declared.state.Device.{Device}
use Rattle.client.specs.declared.state.Call as request
use Rattle.client.specs.declared.state.Call.TheVariants.{Read, Write, Flush, Trim}
use Rattle.client.specs.declared.state.Outcome.{Outcome}
use Rattle.client.specs.declared.state.Outcome.TheVariants.{Succeeded, Refused}
use Rattle.client.specs.declared.state.Value.TheVariants.{Position}
use Rattle.wire.specs.Results.{Result}
use Rattle.joined.specs.Disk.{Call, read, write, seek, flush, trim}
use Rattle.joined.specs.Code.{seek_from, buffer, collected}

pub data Driver : Type 0 where
  busy : State → List ℕ → List Call → List Result → Driver
  over : List Result → Driver

-- ---- a call on a ready client
pub data Begun : Type 0 where
  out : request.Call → Begun
  shut : Outcome → Device → Begun

abbrev pub granted : Device → (ℕ → request.Call) → Option ℕ → Begun
granted d f None = shut (Refused 49) d
granted d f (Some n) = pick (eqb (amount (f n)) 0) (shut (Succeeded (value_of (f n))) d) (out (f n))

abbrev pub sought_at : Device → Option ℕ → Begun
sought_at d None = shut (Refused 48) d
sought_at d (Some p) = shut (Succeeded (Position p)) (positioned d p)

abbrev pub begin : Device → Call → Begun
begin d (read buf) = granted d (λ n. Read n (length buf)) (transfer d (length buf))
begin d (write buf) = granted d (λ n. Write n (length buf)) (transfer d (length buf))
begin d (seek f) = sought_at d (sought d (seek_from f))
begin d flush = out Flush
begin d (trim k) = granted d Trim (transfer d k)

-- ---- calls one after the other
abbrev pub going : Device → Begun → List ℕ → List Call → List Result → (Device → List Result → Driver) → Driver
going d (out c) buf ks rs more = busy (Calling d c (Asking 28)) buf ks rs
going d (shut o d') buf ks rs more = more d' (collected o buf rs)

abbrev pub next : Device → List Call → List Result → Driver
next d [] rs = over rs
next d (k ∷ ks) rs = going d (begin d k) (buffer k) ks rs (λ d' rs'. next d' ks rs')

abbrev pub settle : On State → List Call → List Result → Driver
settle (on Blank m) ks rs = busy (Shaking (length m) (Magic [])) m ks rs
settle (on (Shaking n p) m) ks rs = busy (Shaking n p) m ks rs
settle (on (Ready d) m) ks rs = next d ks rs
settle (on (Calling d c p) m) ks rs = busy (Calling d c p) m ks rs
settle (on (Closed o d) m) ks rs = next d ks (collected o m rs)
settle (on (Over n) m) ks rs = busy (Over n) m ks rs

-- ---- one byte
abbrev pub drive : Driver → Turn Driver
drive (busy x m ks rs) = through (λ y. settle y ks rs) (turn (on x m))
drive (over rs) = rests
