-- The export table, read as a list of records.
--   Record, no_record   an export, as its record has it; zeros and no name
--   export_of r      what an export's session needs of its record
--   Front, front l  what stands at the front of l: nothing, a record and what is behind it, or no record
--   record_of l      the record whose bytes, behind the length, are l
--   fits l n, sized l n   whether the length n at the front of l is in range and not past the end; what stands there by it
--   listed, records_in k   the record at the front, and those behind it; at most k records
--   records t       the records of the table t
--   record_fault n r   the number of a record's first fault, 23 to 25; 0 where it has none
--   first_fault      the first of two faults
--   judged, faults n k   the first fault from what stands at the front on; the same with at most k records more
--   fault n t       the number of its first fault for an image of n bytes, 20 to 25; 0 where it is sound
--   number_of f      01's number for each fault
--   fault_of         the number that the code's answer stands for: 0, or its fault's
--   record_bytes, records_bytes, table_bytes   the bytes of a record, of records and of a table
--   SoundRecord n r, Each n rs   01's rules on a record, and on each of a list
--   Sound n rs      01's rules on the records, for an image of n bytes
--   bit k f, read_only f   whether bit k of the table flags f is set; whether they say read-only
--   wire_flags f     the flags that the server sends for an export with the table flags f
use Rattle.std.specs.Prelude.{ℕ, zero, suc, ◌+◌, ◌/◌, ◌%◌, ◌^◌, ◌≤◌, ◌<◌, ◌≡◌, Bool, true, List, [], ◌∷◌, ◌++◌, eqb, ltb, leb, length, get_or, take, drop, Result, Ok, Err, ⊤}
use Rattle.machine.specs.Choice.{pick, both, between}
use Rattle.wire.specs.Fields.{be, field, Bytes}
use Rattle.wire.specs.Constants.{NBD_FLAG_HAS_FLAGS, NBD_FLAG_READ_ONLY, NBD_FLAG_SEND_FLUSH, NBD_FLAG_ROTATIONAL, NBD_FLAG_SEND_TRIM, NBD_FLAG_SEND_RESIZE}
use Rattle.wire.specs.Utf8.{valid}
use Rattle.wire.specs.declared.table.Export.{Export}
use Rattle.wire.specs.declared.table.Fault.{Fault}
use Rattle.wire.specs.declared.table.Fault.TheVariants.{Version, Length, Count, Window, Flags, Name}

pub record Record : Type 0 where
  pub start : ℕ
  pub size : ℕ
  pub flags : ℕ
  pub name : List ℕ

abbrev pub no_record : Record
no_record = record { start = 0; size = 0; flags = 0; name = [] }

abbrev pub export_of : Record → Export
export_of r = record { start = r.start; size = r.size; flags = r.flags }

-- ---- "records, each with its length first: two bytes L (17 to 4,113) counting what follows: start (8), size (8), flags (1), name (L-17 bytes)"
pub data Front : Type 0 where
  nothing : Front
  broken : Front  -- a length field that is cut, out of range or past the end
  entry : Record → List ℕ → Front

abbrev pub record_of : List ℕ → Record
record_of l = record { start = field l 0 8; size = field l 8 8; flags = get_or l 16 0; name = drop 17 l }

-- the length n, at the front of l, is in range and not past the end
abbrev pub fits : List ℕ → ℕ → Bool
fits l n = both (between 17 4113 n) (leb (2 + n) (length l))

unfoldable pub sized : List ℕ → ℕ → Front
sized l n = pick (fits l n) (entry (record_of (take n (drop 2 l))) (drop (2 + n) l)) broken

unfoldable pub front : List ℕ → Front
unfolding sized
front [] = nothing
front (b ∷ l) = sized (b ∷ l) (field (b ∷ l) 0 2)

-- ---- the records: at most 32
abbrev pub listed : Front → (List ℕ → List Record) → List Record
listed nothing more = []
listed broken more = []
listed (entry r l) more = r ∷ more l

unfoldable pub records_in : ℕ → List ℕ → List Record
records_in zero l = []
records_in (suc k) l = listed (front l) (records_in k)

unfoldable pub records : List ℕ → List Record
records t = records_in 32 (drop 1 t)

-- ---- the first fault: "The first faulty record decides; in it: 22, 21, 24, 25, 23"
abbrev pub record_fault : ℕ → Record → ℕ
record_fault n r = pick (ltb r.flags 16) (pick (valid r.name) (pick (leb (r.start + r.size) n) 0 23) 25) 24

abbrev pub first_fault : ℕ → ℕ → ℕ
first_fault zero later = later
first_fault (suc f) later = suc f

abbrev pub judged : ℕ → Front → (List ℕ → ℕ) → ℕ
judged n nothing more = 0
judged n broken more = 21
judged n (entry r l) more = first_fault (record_fault n r) (more l)

-- with at most k records more
unfoldable pub faults : ℕ → ℕ → List ℕ → ℕ
faults n zero [] = 0
faults n zero (b ∷ l) = 22
faults n (suc k) l = judged n (front l) (faults n k)

unfoldable pub fault : ℕ → List ℕ → ℕ
fault n [] = 20
fault n (v ∷ l) = pick (eqb v 1) (faults n 32 l) 20

abbrev pub number_of : Fault → ℕ
number_of Version = 20
number_of Length = 21
number_of Count = 22
number_of Window = 23
number_of Flags = 24
number_of Name = 25

abbrev pub fault_of : Result ⊤ Fault → ℕ
fault_of (Ok sound) = 0
fault_of (Err f) = number_of f

-- ---- soundness without the reading: which lists of records a table may hold, and its bytes
unfoldable pub record_bytes : Record → List ℕ
record_bytes r = be 2 (17 + length r.name) ++ be 8 r.start ++ be 8 r.size ++ r.flags ∷ r.name

abbrev pub records_bytes : List Record → List ℕ
records_bytes [] = []
records_bytes (r ∷ rs) = record_bytes r ++ records_bytes rs

abbrev pub table_bytes : List Record → List ℕ
table_bytes rs = 1 ∷ records_bytes rs

pub record SoundRecord (n : ℕ) (r : Record) : Type 0 where
  pub start_fits : r.start < 2 ^ 64
  pub size_fits : r.size < 2 ^ 64
  pub known_flags : r.flags < 16
  pub short_name : length r.name ≤ 4096
  pub name_bytes : Bytes r.name
  pub text : valid r.name ≡ true
  pub window : r.start + r.size ≤ n

abbrev pub Each : ℕ → List Record → Type 0
Each n [] = Unit {0}
Each n (r ∷ rs) = SoundRecord n r × Each n rs

pub record Sound (n : ℕ) (rs : List Record) : Type 0 where
  pub at_most : length rs ≤ 32
  pub each : Each n rs

-- ---- "flags (1: bit 0 read-only, 1 resizeable, 2 rotational, 3 send_trim)"
abbrev pub bit : ℕ → ℕ → Bool
bit k f = eqb (f / 2 ^ k % 2) 1

abbrev pub read_only : ℕ → Bool
read_only f = bit 0 f

-- "Flags: 1; plus 2 if read-only, else 4; plus 512 resizeable, 16 rotational, 32 send_trim."
unfoldable pub wire_flags : ℕ → ℕ
wire_flags f =
    NBD_FLAG_HAS_FLAGS
    + pick (read_only f) NBD_FLAG_READ_ONLY NBD_FLAG_SEND_FLUSH
    + pick (bit 1 f) NBD_FLAG_SEND_RESIZE 0
    + pick (bit 2 f) NBD_FLAG_ROTATIONAL 0
    + pick (bit 3 f) NBD_FLAG_SEND_TRIM 0
