-- The plain disk (01): "the window's bytes, read-only flag and position", with calls made one after the other. Nothing here knows of machines or wires.
--   Disk, Call, From          the disk; the calls that are made on it; where a seek counts from
--   succeeds, fails, refused  a result with values, with an error of the device, with a number that refuses
--   transfer d k              how many bytes a read, a write or a trim of k bytes moves; none where the position is past the size
--   shifted p z               p plus a signed number, where there is an answer
--   target d f                the position that a seek leads to, where there is one
--   here d n                  the n bytes from the position on
--   read_result, write_result, trim_result, seek_result   the result of such a call, by the bytes that it moves or the position that it leads to
--   result d k                the result of the call k
--   moved d p, stored d n buf   the disk with its position at p; the disk with n bytes of buf stored, and its position behind them
--   read_after, write_after, seek_after   the disk after such a call
--   after d k                 the disk after the call k
--   results, final            those of a list of calls
use Rattle.std.specs.Prelude.{ℕ, zero, suc, min, ◌+◌, ◌-◌, ◌^◌, Bool, not, List, [], ◌∷◌, ◌++◌, eqb, ltb, leb, ℤ, pos, negsuc, length, take, drop, Option, None, Some}
use Rattle.machine.specs.Choice.{pick, both}
use Rattle.wire.specs.Results.{Result}

pub record Disk : Type 0 where
  pub bytes : List ℕ
  pub read_only : Bool
  pub position : ℕ

pub data From : Type 0 where
  from_start : ℕ → From
  from_here : ℤ → From
  from_end : ℤ → From

pub data Call : Type 0 where
  read : List ℕ → Call  -- the buffer
  write : List ℕ → Call  -- the bytes
  seek : From → Call
  flush : Call
  trim : ℕ → Call

abbrev pub succeeds : List ℕ → List ℕ → Result
succeeds values buf = record { number = None; values = values; buffer = buf }

-- 47, "device error, raw number with it"
abbrev pub fails : ℕ → List ℕ → Result
fails error buf = record { number = Some 47; values = error ∷ []; buffer = buf }

abbrev pub refused : ℕ → List ℕ → Result
refused why buf = record { number = Some why; values = []; buffer = buf }

-- "position = size gives 0; position > size is refused even for an empty buffer; else n = min(buffer length, size - position, 2^32-1)"
abbrev pub transfer : Disk → ℕ → Option ℕ
transfer d k =
    pick (ltb (length d.bytes) d.position) None (Some (min (min k (length d.bytes - d.position)) (2 ^ 32 - 1)))

-- "refused if it leaves 0..2^64-1 or is by -2^63"; `negsuc n` is -(n + 1)
abbrev pub shifted : ℕ → ℤ → Option ℕ
shifted p (pos n) = pick (leb (2 ^ 64) (p + n)) None (Some (p + n))
shifted p (negsuc n) = pick (both (leb (suc n) p) (not (eqb (suc n) (2 ^ 63)))) (Some (p - suc n)) None

-- "Seek from the start takes any 64-bit value"
abbrev pub target : Disk → From → Option ℕ
target d (from_start p) = Some p
target d (from_here z) = shifted d.position z
target d (from_end z) = shifted (length d.bytes) z

-- ---- results, by how many bytes are moved
-- the n bytes from the position on
abbrev pub here : Disk → ℕ → List ℕ
here d n = take n (drop d.position d.bytes)

abbrev pub read_result : Disk → List ℕ → Option ℕ → Result
read_result d buf None = refused 49 buf
read_result d buf (Some n) = succeeds (n ∷ []) (here d n ++ drop n buf)

-- "n = 0 sends nothing and succeeds"; "writes store n or fail 47 with error 1"
abbrev pub write_result : Disk → List ℕ → Option ℕ → Result
write_result d buf None = refused 49 buf
write_result d buf (Some zero) = succeeds (0 ∷ []) buf
write_result d buf (Some (suc n)) = pick d.read_only (fails 1 buf) (succeeds (suc n ∷ []) buf)

-- "trims with n > 0 fail 47 with error 38"
abbrev pub trim_result : Option ℕ → Result
trim_result None = refused 49 []
trim_result (Some zero) = succeeds [] []
trim_result (Some (suc n)) = fails 38 []

abbrev pub seek_result : Option ℕ → Result
seek_result None = refused 48 []
seek_result (Some p) = succeeds (p ∷ []) []

abbrev pub result : Disk → Call → Result
result d (read buf) = read_result d buf (transfer d (length buf))
result d (write buf) = write_result d buf (transfer d (length buf))
result d (seek f) = seek_result (target d f)
result d flush = succeeds [] []
result d (trim k) = trim_result (transfer d k)

-- ---- the disk afterwards: "Only a successful read or write moves the position"
abbrev pub moved : Disk → ℕ → Disk
moved d p = record { bytes = d.bytes; read_only = d.read_only; position = p }

abbrev pub stored : Disk → ℕ → List ℕ → Disk
stored d n buf = record {
  bytes = take d.position d.bytes ++ take n buf ++ drop (d.position + n) d.bytes;
  read_only = d.read_only;
  position = d.position + n;
}

abbrev pub read_after : Disk → Option ℕ → Disk
read_after d None = d
read_after d (Some n) = moved d (d.position + n)

abbrev pub write_after : Disk → List ℕ → Option ℕ → Disk
write_after d buf None = d
write_after d buf (Some zero) = d
write_after d buf (Some (suc n)) = pick d.read_only d (stored d (suc n) buf)

abbrev pub seek_after : Disk → Option ℕ → Disk
seek_after d None = d
seek_after d (Some p) = moved d p

abbrev pub after : Disk → Call → Disk
after d (read buf) = read_after d (transfer d (length buf))
after d (write buf) = write_after d buf (transfer d (length buf))
after d (seek f) = seek_after d (target d f)
after d flush = d
after d (trim k) = d

-- ---- a list of calls
abbrev pub results : Disk → List Call → List Result
results d [] = []
results d (k ∷ ks) = result d k ∷ results (after d k) ks

abbrev pub final : Disk → List Call → Disk
final d [] = d
final d (k ∷ ks) = final (after d k) ks
