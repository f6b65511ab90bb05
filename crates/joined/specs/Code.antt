-- The client's and the server's code on two wires of bounded capacity: what the contracts of their public functions say, in any order, on any
-- pieces, with any room that the wire out has space for.
--   Code             where all stands: the client and what is lent to it, the calls that are left, the results so far, the server and its image, the wires
--   seek_from         where a seek counts from, as the code has it
--   calls k c        what the contract of the call k says of the client c
--   buffer k         what is lent while the call k is open
--   result_of         the result of an outcome, with what the buffer holds
--   collected        the results so far, with that of a call or of the handshake that has just been closed
--   Ready c          the handshake and the call before are closed
--   Unclosed c       the handshake or a call is open
--   client_at, server_at, call_at   where a step of the client, a step of the server, a call leads
--   Sized            each wire has room for a byte or more
--   Move             one step or call, the handshake's among them, with the bytes that it took and gave
--   Runs             moves in any order
--   AllClosed        the handshake and all calls are closed
--   Holds            the table is sound for the image, and its record k is the first of that name
--   begin            the start: a fresh client, to which the name is lent, a fresh server, empty wires
--   export t k       record k of the table
--   disk, opening    the plain disk that the record stands for, and what the handshake answers
--   ClientCarries, ServerCarries   each step of that side, on all of its wire in and with some room where its wire out has space, carries a byte or more
use Rattle.std.specs.Prelude.{ℕ, ◌+◌, ◌-◌, ◌/◌, ◌%◌, ◌≤◌, ◌<◌, ◌≡◌, List, [], ◌∷◌, ◌++◌, eqb, length, get_or, take, drop}
use Rattle.machine.specs.Traffic.{Traffic, client_bytes, server_bytes, no_bytes, append}
use Rattle.wire.specs.Fields as wire
use Rattle.wire.specs.Table.{Record, no_record, records, fault}
use Rattle.wire.specs.Found.{First}
use Rattle.server.specs.Session.{Shaking, Greeting}
use Rattle.server.specs.View.{code}
use Rattle.server.specs.Contract.{Serves}
use Rattle.server.specs.declared.state.Server.{Server}
use Rattle.server.specs.Answers as served
use Rattle.client.specs.Session as client
use Rattle.client.specs.View.{view}
use Rattle.client.specs.Contract.{number_of, values_of, fresh, shaken, reading, writing, seeking, flushing, trimming, Drives}
use Rattle.client.specs.declared.state.Client.{Client}
use Rattle.client.specs.declared.state.Device.{Device}
use Rattle.client.specs.declared.state.Outcome.{Outcome}
use Rattle.client.specs.declared.state.Outcome.TheVariants.{Open, Succeeded, Failed, Ended, Refused}
use Rattle.client.specs.declared.state.SeekFrom.{SeekFrom}
use Rattle.client.specs.declared.state.SeekFrom.TheVariants.{Start, Current, End}
use Rattle.client.specs.Answers.{Called}
use Rattle.client.specs.Answers as driven
use Rattle.wire.specs.Results.{Result}
use Rattle.joined.specs.Disk.{Disk, From, from_start, from_here, from_end, Call, read, write, seek, flush, trim, succeeds}

pub data Code : Type 0 where
  joint : Client → List ℕ → List Call → List Result → Server → List ℕ → List ℕ → List ℕ → Code

-- ---- the calls
abbrev pub seek_from : From → SeekFrom
seek_from (from_start p) = Start p
seek_from (from_here z) = Current z
seek_from (from_end z) = End z

abbrev pub calls : Call → Client → Called
calls (read buf) c = reading (length buf) c
calls (write buf) c = writing (length buf) c
calls (seek f) c = seeking (seek_from f) c
calls flush c = flushing c
calls (trim k) c = trimming k c

-- what is lent while the call is open
abbrev pub buffer : Call → List ℕ
buffer (read buf) = buf
buffer (write buf) = buf
buffer (seek f) = []
buffer flush = []
buffer (trim k) = []

-- ---- results, as a host sees them
abbrev pub result_of : Outcome → List ℕ → Result
result_of o buf = record { number = number_of o; values = values_of o; buffer = buf }

abbrev pub collected : Outcome → List ℕ → List Result → List Result
collected Open buf rs = rs
collected (Succeeded v) buf rs = rs ++ result_of (Succeeded v) buf ∷ []
collected (Failed error) buf rs = rs ++ result_of (Failed error) buf ∷ []
collected (Ended n) buf rs = rs
collected (Refused why) buf rs = rs ++ result_of (Refused why) buf ∷ []

-- ---- moves and runs
pub record Ready (c : Client) : Type 0 where
  pub device : Device
  pub rests : view c ≡ client.Ready device

-- neither blank nor ready
pub record Unclosed (c : Client) : Type 0 where
  pub called : view c ≡ client.Blank → ⊥
  pub not_ready : Ready c → ⊥

-- A step of the client on a first part of its wire in: the bytes given are put on its wire out, and those taken are off the wire in.
abbrev pub client_at : List Call → List Result → Server → List ℕ → List ℕ → List ℕ → driven.Stepped → List ℕ → List ℕ → Code
client_at ks rs s img u d r m' room' = joint r.state m' ks (collected r.outcome m' rs) s img (u ++ take r.given room') (drop r.taken d)

-- the server likewise
abbrev pub server_at : Client → List ℕ → List Call → List Result → List ℕ → List ℕ → served.Stepped → List ℕ → List ℕ → Code
server_at c m ks rs u d r img' room' = joint c m ks rs r.state img' (drop r.taken u) (d ++ take r.given room')

-- a call is made, with m lent
abbrev pub call_at : List Call → List Result → Server → List ℕ → List ℕ → List ℕ → List ℕ → Called → Code
call_at ks rs s img u d m r = joint r.state m ks (collected r.outcome m rs) s img u d

-- "two faithful wires with room for a byte or more"
pub record Sized (cu cd : ℕ) : Type 0 where
  pub up : 0 < cu
  pub down : 0 < cd

pub data Move (t : List ℕ) (cu cd : ℕ) : Traffic → Code → Code → Type 0 where
  -- the client is stepped on a first part of its wire in, with a room that its wire out has space for
  client_step : {c : Client} {m : List ℕ} {ks : List Call} {rs : List Result} {s : Server} {img u d : List ℕ}
      (n : ℕ) (room : List ℕ) (r : driven.Stepped) (m' room' : List ℕ) → length u + length room ≤ cu → Drives c m (take n d) room r m' room'
      → Move t cu cd (client_bytes (take r.taken d) (take r.given room')) (joint c m ks rs s img u d) (client_at ks rs s img u d r m' room')
  -- the server likewise
  server_step : {c : Client} {m : List ℕ} {ks : List Call} {rs : List Result} {s : Server} {img u d : List ℕ}
      (n : ℕ) (room : List ℕ) (r : served.Stepped) (img' room' : List ℕ) → length d + length room ≤ cd → Serves s t img (take n u) room r img' room'
      → Move t cu cd (server_bytes (take r.taken u) (take r.given room')) (joint c m ks rs s img u d) (server_at c m ks rs u d r img' room')
  -- the handshake is called, with the name that is lent
  shake : {c : Client} {m : List ℕ} {ks : List Call} {rs : List Result} {s : Server} {img u d : List ℕ} (r : Called) → view c ≡ client.Blank → r ≡ shaken (length m) c
      → Move t cu cd no_bytes (joint c m ks rs s img u d) (call_at ks rs s img u d m r)
  -- the next call is made
  call : {c : Client} {m : List ℕ} {ks : List Call} {rs : List Result} {s : Server} {img u d : List ℕ} (k : Call) (r : Called) → Ready c → r ≡ calls k c
      → Move t cu cd no_bytes (joint c m (k ∷ ks) rs s img u d) (call_at ks rs s img u d (buffer k) r)

pub data Runs (t : List ℕ) (cu cd : ℕ) : Traffic → Code → Code → Type 0 where
  stop : {x : Code} → Runs t cu cd no_bytes x x
  move : {x y z : Code} {a b : Traffic} → Move t cu cd a x y → Runs t cu cd b y z → Runs t cu cd (append a b) x z

abbrev pub AllClosed : Code → Type 0
AllClosed (joint c m ks rs s img u d) = (ks ≡ []) × Ready c

-- ---- the start
pub record Holds (t img name : List ℕ) (k : ℕ) : Type 0 where
  pub bytes : wire.Bytes t
  pub sound : fault (length img) t ≡ 0
  pub found : First (records t) name k

abbrev pub begin : List ℕ → List Call → List ℕ → Code
begin name ks img = joint fresh name ks [] (code (Shaking (Greeting 18))) img [] []

-- record k of the table
abbrev pub export : List ℕ → ℕ → Record
export t k = get_or (records t) k no_record

-- "The export's window is a part of the lent image"; bit 0 of the flags is read-only; "Position starts at 0"
abbrev pub disk : Record → List ℕ → Disk
disk r img = record { bytes = take r.size (drop r.start img); read_only = eqb (r.flags % 2) 1; position = 0 }

-- the size, and the fields: read-only, resizeable, rotational, send_trim, and send_flush where it is not read-only
abbrev pub opening : Record → List ℕ → Result
opening r name =
    succeeds (r.size ∷ r.flags % 2 ∷ r.flags / 2 % 2 ∷ r.flags / 4 % 2 ∷ r.flags / 8 % 2 ∷ (1 - r.flags % 2) ∷ []) name

-- ---- some move can carry a byte: each step of one side on all of its wire in, with some room where its wire out has space
abbrev pub ClientCarries : ℕ → Client → List ℕ → List ℕ → List ℕ → Type 0
ClientCarries cu c m u d =
    (room : List ℕ) (r : driven.Stepped) (m' room' : List ℕ) → (length u < cu → 0 < length room) → Drives c m d room r m' room' → 0 < r.taken + r.given

abbrev pub ServerCarries : List ℕ → ℕ → Server → List ℕ → List ℕ → List ℕ → Type 0
ServerCarries t cd s img u d =
    (room : List ℕ) (r : served.Stepped) (img' room' : List ℕ) → (length d < cd → 0 < length room) → Serves s t img u room r img' room' → 0 < r.taken + r.given
