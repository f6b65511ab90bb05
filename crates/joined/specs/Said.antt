-- The bytes that the handshake and the calls carry, by the protocol's layouts alone.
--   if_sent n bytes             a call's bytes, where it moves some; else nothing is sent
--   asking type d n            a request for n bytes from the position on
--   question d k, answer d k   up and down, for one call on the disk d
--   questions, answers         for a list of calls
--   said_up, said_down           for the handshake and a list of calls
-- That they are as many as 01's formula says is `length_up` and `length_down` of proofs/Conversation.antt.
use Rattle.std.specs.Prelude.{ℕ, zero, suc, true, List, [], ◌∷◌, ◌++◌, length, take, Option, None, Some}
use Rattle.machine.specs.Choice.{pick}
use Rattle.wire.specs.Constants.{NBD_CMD_READ, NBD_CMD_WRITE, NBD_CMD_FLUSH, NBD_CMD_TRIM}
use Rattle.wire.specs.Layouts.{greeting, export_reply, export_name, request, simple_reply}
use Rattle.wire.specs.Table.{Record, wire_flags}
use Rattle.joined.specs.Disk.{Disk, Call, read, write, seek, flush, trim, transfer, here, after}

-- bytes where the call moves some; else nothing is sent
abbrev pub if_sent : Option ℕ → (ℕ → List ℕ) → List ℕ
if_sent None bytes = []
if_sent (Some zero) bytes = []
if_sent (Some (suc n)) bytes = bytes (suc n)

-- a request for n bytes from the position on; its flags and its handle are 0
abbrev pub asking : ℕ → Disk → ℕ → List ℕ
asking type d n = request 0 type 0 d.position n

abbrev pub question : Disk → Call → List ℕ
question d (read buf) = if_sent (transfer d (length buf)) (λ n. asking NBD_CMD_READ d n)
question d (write buf) = if_sent (transfer d (length buf)) (λ n. asking NBD_CMD_WRITE d n ++ take n buf)
question d (seek f) = []
question d flush = request 0 NBD_CMD_FLUSH 0 0 0
question d (trim k) = if_sent (transfer d k) (λ n. asking NBD_CMD_TRIM d n)

abbrev pub answer : Disk → Call → List ℕ
answer d (read buf) = if_sent (transfer d (length buf)) (λ n. simple_reply 0 0 ++ here d n)
answer d (write buf) = if_sent (transfer d (length buf)) (λ n. simple_reply (pick d.read_only 1 0) 0)
answer d (seek f) = []
answer d flush = simple_reply 0 0
answer d (trim k) = if_sent (transfer d k) (λ n. simple_reply 38 0)

abbrev pub questions : Disk → List Call → List ℕ
questions d [] = []
questions d (k ∷ ks) = question d k ++ questions (after d k) ks

abbrev pub answers : Disk → List Call → List ℕ
answers d [] = []
answers d (k ∷ ks) = answer d k ++ answers (after d k) ks

abbrev pub said_up : List ℕ → Disk → List Call → List ℕ
said_up name d ks = export_name name ++ questions d ks

abbrev pub said_down : Record → Disk → List Call → List ℕ
said_down r d ks = greeting ++ export_reply r.size (wire_flags r.flags) true ++ answers d ks
