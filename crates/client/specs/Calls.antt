-- What a call asks for and what its success gives: the one root of the calls' rules (01, "Client").
--   bit flags k, has flags k   whether the flags have the bit of weight k; whether they have it and bit 0
--   fields_of flags             "Flags set fields only if bit 0 is set"
--   device size flags          the device as the handshake leaves it, with its position at 0
--   transfer d k               how many bytes a read, a write or a trim of k bytes moves; none where it is refused
--   sought d f                 the position that a seek leads to; none where it is refused
--   amount, payload, wanted    how many bytes a call names in its request, sends behind it, and is sent behind the reply
--   type_of c, offset_of d c     the type and the offset in a call's request
--   request_bytes d c           the 28 bytes of a call's request
--   value_of c                  the value of a call that succeeds
--   positioned d p             the device with its position at p
--   moved d c                  the device after a call that succeeds
use Rattle.std.specs.Prelude.{ℕ, min, ◌+◌, ◌-◌, ◌/◌, ◌%◌, Bool, List, eqb, ltb, Option, None, Some}
use Rattle.machine.specs.Choice.{pick, both}
use Rattle.wire.specs.Numbers.{clamped, added}
use Rattle.wire.specs.Constants.{NBD_FLAG_HAS_FLAGS, NBD_FLAG_READ_ONLY, NBD_FLAG_SEND_FLUSH, NBD_FLAG_ROTATIONAL, NBD_FLAG_SEND_TRIM, NBD_FLAG_SEND_RESIZE, NBD_CMD_READ, NBD_CMD_WRITE, NBD_CMD_FLUSH, NBD_CMD_TRIM, NBD_CMD_RESIZE}
use Rattle.wire.specs.Layouts.{request}
use Rattle.client.specs.declared.state.Fields.{Fields}
use Rattle.client.specs.declared.state.Device.{Device}
use Rattle.client.specs.declared.state.Call.{Call}
use Rattle.client.specs.declared.state.Call.TheVariants.{Read, Write, Flush, Trim, Resize}
use Rattle.client.specs.declared.state.Value.{Value}
use Rattle.client.specs.declared.state.Value.TheVariants as value
use Rattle.client.specs.declared.state.SeekFrom.{SeekFrom}
use Rattle.client.specs.declared.state.SeekFrom.TheVariants.{Start, Current, End}

-- ---- the flags
abbrev pub bit : ℕ → ℕ → Bool
bit flags k = eqb (flags / k % 2) 1

abbrev pub has : ℕ → ℕ → Bool
has flags k = both (bit flags NBD_FLAG_HAS_FLAGS) (bit flags k)

abbrev pub fields_of : ℕ → Fields
fields_of flags = record {
  readonly = has flags NBD_FLAG_READ_ONLY;
  resizeable = has flags NBD_FLAG_SEND_RESIZE;
  rotational = has flags NBD_FLAG_ROTATIONAL;
  send_trim = has flags NBD_FLAG_SEND_TRIM;
  send_flush = has flags NBD_FLAG_SEND_FLUSH;
}

-- "Position starts at 0"
abbrev pub device : ℕ → ℕ → Device
device size flags = record { size = size; position = 0; fields = fields_of flags }

-- "Transfer n: position = size gives 0; position > size is refused even for an empty buffer; else n = min(buffer length, size - position, 2^32-1)"
unfoldable pub transfer : Device → ℕ → Option ℕ
transfer d k =
    pick (eqb d.position d.size) (Some 0)
    (pick (ltb d.size d.position) None (Some (clamped (min k (d.size - d.position)))))

-- "Seek from the start takes any 64-bit value"
abbrev pub sought : Device → SeekFrom → Option ℕ
sought d (Start p) = Some p
sought d (Current z) = added d.position z
sought d (End z) = added d.size z

-- ---- an open call
abbrev pub amount : Call → ℕ
amount (Read n len) = n
amount (Write n len) = n
amount Flush = 0
amount (Trim n) = n
amount (Resize size) = 0

abbrev pub payload : Call → ℕ
payload (Read n len) = 0
payload (Write n len) = n
payload Flush = 0
payload (Trim n) = 0
payload (Resize size) = 0

abbrev pub wanted : Call → ℕ
wanted (Read n len) = n
wanted (Write n len) = 0
wanted Flush = 0
wanted (Trim n) = 0
wanted (Resize size) = 0

abbrev pub type_of : Call → ℕ
type_of (Read n len) = NBD_CMD_READ
type_of (Write n len) = NBD_CMD_WRITE
type_of Flush = NBD_CMD_FLUSH
type_of (Trim n) = NBD_CMD_TRIM
type_of (Resize size) = NBD_CMD_RESIZE

-- "Resize sends type 8 with the new size as offset and length 0, flush has both 0"
abbrev pub offset_of : Device → Call → ℕ
offset_of d (Read n len) = d.position
offset_of d (Write n len) = d.position
offset_of d Flush = 0
offset_of d (Trim n) = d.position
offset_of d (Resize size) = size

abbrev pub request_bytes : Device → Call → List ℕ
request_bytes d c = request 0 (type_of c) 0 (offset_of d c) (amount c)

-- ---- a call that succeeds
abbrev pub value_of : Call → Value
value_of (Read n len) = value.Bytes n
value_of (Write n len) = value.Bytes n
value_of Flush = value.Nothing
value_of (Trim n) = value.Nothing
value_of (Resize size) = value.Nothing

abbrev pub positioned : Device → ℕ → Device
positioned d p = record { size = d.size; position = p; fields = d.fields }

-- "Only a successful read or write moves the position"; "the size changes on success"
abbrev pub moved : Device → Call → Device
moved d (Read n len) = positioned d (d.position + n)
moved d (Write n len) = positioned d (d.position + n)
moved d Flush = d
moved d (Trim n) = d
moved d (Resize size) = record { size = size; position = d.position; fields = d.fields }
