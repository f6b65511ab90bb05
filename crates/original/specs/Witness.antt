-- A small session for each of 01's exclusions. At the server: a table with one export of 8 bytes and the empty name, and one request.
--   Witness     the export's flags, the request's type, offset and length, and the bytes behind its header
--   image, export, table   the image; the export, and the table that has it
--   request     a request's bytes, with handle 7
--   input       what the client sends: its flags, EXPORT_NAME and the request
--   tests       which of the four exclusions the request falls under, in 01's order
--   ran         what the machine comes to over the whole input
--   state_of, image_of   the state and the image of a place of the machine
--   Differs     the machine finishes over it, and not as document 000 does
--   past_read, past_write, read_only_write, cut_write   the witnesses
--   told, asks  what one request comes to, as a list; a single request, beside what it is expected to come to
--   measured    what the crate was measured to do with single requests: sent, device, left and outcome, beside what the definition gives
--   plain, device   a client of 8 bytes at the position 0, as document 000 has it, and as the port has it
--   wrong, right    a reply with another signature, and a good one
--   long_name    a name of 4,097 bytes
--   AfterFault, WhileOwed, LongName   the same for the client: how the two differ there
use Rattle.std.specs.Prelude.{ℕ, ◌≡◌, Bool, true, List, [], ◌∷◌, ◌++◌, length, replicate}
use Rattle.machine.specs.Machine.{On, on, owes}
use Rattle.machine.specs.Run.{Ran, run_for}
use Rattle.machine.specs.Stream.{Finished}
use Rattle.wire.specs.Table.{table_bytes}
use Rattle.wire.specs.Cases.{Case, is}
use Rattle.wire.specs.declared.table.Export.{Export}
use Rattle.server.specs.Session.{State, Greeting, Shaking, turn}
use Rattle.client.specs.Calls.{fields_of}
use Rattle.client.specs.Session as client
use Rattle.client.specs.Session.{Over}
use Rattle.client.specs.View.{code}
use Rattle.client.specs.Contract.{fresh, end_of_input}
use Rattle.client.specs.History.{to_shake, answered}
use Rattle.client.specs.declared.state.Device.{Device}
use Rattle.client.specs.declared.state.Call.TheVariants.{Flush}
use Rattle.client.specs.declared.state.Outcome.TheVariants.{Ended, Refused}
use Rattle.original.specs.Consts.{NBD_OPT_MAGIC, NBD_REQUEST_MAGIC, NBD_OPT_EXPORT_NAME, NBD_CMD_READ, NBD_CMD_WRITE, NBD_CMD_FLUSH}
use Rattle.original.specs.Leaves.{u16, u32, u64, greeting, replyt, export_name, sendrequest}
use Rattle.original.specs.Client.{NbdClient, ok, fault, flush, made, handshake}
use Rattle.original.specs.ClientSession.{asked}
use Rattle.original.specs.Connection.{ended, sudden_eof}
use Rattle.original.specs.Transmission.{Next, again, stop, one_request}
use Rattle.original.specs.Server.{session, read_past, write_past, write_read_only, write_cut, Same}

pub record Witness : Type 0 where
  pub flags : ℕ
  pub type : ℕ
  pub offset : ℕ
  pub len : ℕ
  pub behind : List ℕ

abbrev pub image : List ℕ
image = 10 ∷ 11 ∷ 12 ∷ 13 ∷ 14 ∷ 15 ∷ 16 ∷ 17 ∷ []

abbrev pub export : Witness → Export
export w = record { start = 0; size = 8; flags = w.flags }

abbrev pub table : Witness → List ℕ
table w = table_bytes (record { start = 0; size = 8; flags = w.flags; name = [] } ∷ [])

abbrev pub request : ℕ → ℕ → ℕ → List ℕ
request type offset len = u32 NBD_REQUEST_MAGIC ++ u16 0 ++ u16 type ++ u64 7 ++ u64 offset ++ u32 len

abbrev pub input : Witness → List ℕ
input w = u32 3 ++ u64 NBD_OPT_MAGIC ++ u32 NBD_OPT_EXPORT_NAME ++ u32 0 ++ request w.type w.offset w.len ++ w.behind

abbrev pub tests : Witness → List Bool
tests w =
    read_past (export w) w.type w.offset w.len
    ∷ write_past (export w) w.type w.offset w.len
    ∷ write_read_only (export w) w.type
    ∷ write_cut w.type w.len w.behind
    ∷ []

-- the machine over the whole input, with fuel and room to spare
abbrev pub ran : Witness → Ran (On State)
ran w = run_for (turn (table w)) 200 (on (Shaking (Greeting 18)) image) (input w) 200

abbrev pub state_of : On State → State
state_of (on x m) = x

abbrev pub image_of : On State → List ℕ
image_of (on x m) = m

pub record Differs (w : Witness) : Type 0 where
  pub finishes : Finished (turn (table w) (ran w).stands) (ran w).rest
  pub not_same : Same (session (table w) image (input w)) (ran w).given (state_of (ran w).stands) (image_of (ran w).stands) (ran w).rest → ⊥

abbrev pub past_read : Witness
past_read = record { flags = 0; type = NBD_CMD_READ; offset = 5; len = 4; behind = [] }

abbrev pub past_write : Witness
past_write = record { flags = 0; type = NBD_CMD_WRITE; offset = 7; len = 2; behind = 1 ∷ 2 ∷ [] }

abbrev pub read_only_write : Witness
read_only_write = record { flags = 1; type = NBD_CMD_WRITE; offset = 0; len = 1; behind = 1 ∷ [] }

abbrev pub cut_write : Witness
cut_write = record { flags = 0; type = NBD_CMD_WRITE; offset = 0; len = 2; behind = 1 ∷ [] }

-- ---- single requests with handle 7, over the image as the device
-- going on is 256, "sudden EOF" is 257; each part has its length before it
abbrev pub told : Next → List ℕ
told (again sent device left) = 256 ∷ length sent ∷ sent ++ device ++ length left ∷ left
told (stop sent device left sudden_eof) = 257 ∷ length sent ∷ sent ++ device ++ length left ∷ left
told (stop sent device left (ended n)) = n ∷ length sent ∷ sent ++ device ++ length left ∷ left

abbrev pub asks : ℕ → ℕ → ℕ → List ℕ → Next → Case
asks type offset len behind expected =
    is (told (one_request image (request type offset len ++ behind))) (told expected)

abbrev pub measured : List Case
measured =
    -- READ 5+4: reply 0 and 3 bytes, then "sudden EOF"; READ 8+4 and 2^64-1 + 1: no reply, "sudden EOF"; READ 9+0: silent, goes on
    asks NBD_CMD_READ 5 4 [] (stop (replyt 0 7 ++ 15 ∷ 16 ∷ 17 ∷ []) image [] sudden_eof)
    ∷ asks NBD_CMD_READ 8 4 [] (stop [] image [] sudden_eof)
    ∷ asks NBD_CMD_READ 0xFFFFFFFFFFFFFFFF 1 [] (stop [] image [] sudden_eof)
    ∷ asks NBD_CMD_READ 9 0 [] (again [] image [])
    -- WRITE 7+2: error 5, and the byte that fits is written; 0+70000: 65,536 bytes are taken, and the rest is left; length 0, at any offset: reply 0; cut in its payload: "sudden EOF"
    ∷ asks NBD_CMD_WRITE 7 2 (1 ∷ 2 ∷ []) (again (replyt 5 7) (10 ∷ 11 ∷ 12 ∷ 13 ∷ 14 ∷ 15 ∷ 16 ∷ 1 ∷ []) [])
    ∷ asks NBD_CMD_WRITE 0 70000 (replicate 70000 1) (again (replyt 5 7) (replicate 8 1) (replicate 4464 1))
    ∷ asks NBD_CMD_WRITE 9 0 (1 ∷ []) (again (replyt 0 7) image (1 ∷ []))
    ∷ asks NBD_CMD_WRITE 0 3 (1 ∷ 2 ∷ []) (stop [] (1 ∷ 2 ∷ 12 ∷ 13 ∷ 14 ∷ 15 ∷ 16 ∷ 17 ∷ []) [] sudden_eof)
    ∷ []

-- ---- the client's three exclusions. A client of 8 bytes at the position 0; a reply with another signature, and a good one
abbrev pub plain : NbdClient
plain = record { size = 8; position = 0 }

abbrev pub device : Device
device = record { size = 8; position = 0; fields = fields_of 1 }

abbrev pub wrong : List ℕ
wrong = u32 0 ++ u32 0 ++ u64 0

abbrev pub right : List ℕ
right = replyt 0 0

-- after a fault: document 000's client makes the next call all the same
pub record AfterFault : Type 0 where
  pub faults : (made plain flush wrong).answer ≡ fault 45
  pub goes_on : (made plain flush right).answer ≡ ok [] plain
  pub refuses : (answered (asked flush) (code (Over 45))).outcome ≡ Refused 51

-- the end of input while output is owed: document 000 sends its request before it can meet the end
pub record WhileOwed : Type 0 where
  pub sends_first : (made plain flush []).sent ≡ sendrequest NBD_CMD_FLUSH 0 0
  pub faults : (made plain flush []).answer ≡ fault 50
  pub owes : owes (client.turn (on (client.Calling device Flush (client.Asking 28)) [])) ≡ true
  pub ends_unsent : (end_of_input (code (client.Calling device Flush (client.Asking 28)))).outcome ≡ Ended 50

-- a name of 4,097 bytes: document 000 sends it
abbrev pub long_name : List ℕ
long_name = replicate 4097 0x61

pub record LongName : Type 0 where
  pub sends_it : (handshake long_name greeting).sent ≡ export_name long_name
  pub refuses : (answered (to_shake (length long_name)) fresh).outcome ≡ Refused 44
