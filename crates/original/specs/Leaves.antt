-- Document 000's leaf functions, each as lib.rs computes it, and what it writes, in the order of its `write_*` calls.
--   has                     `flags & k != 0`
--   Fields, export_flags     the fields of an `Export` that its flags are made of; the flags that answer EXPORT_NAME
--   table_fields             the fields that the callback finds in a table's flags byte
--   or_if                    `if b { flags |= k }`
--   tail, behind            a tail byte of UTF-8; which bytes follow a first one, none where that begins no character
--   begins, octets          the rest of a text, if its first byte begins a character; the bytes that complete a character, and then characters
--   from_utf8                std's `from_utf8`
--   checked_add, checked_sub, checked_neg   `checked_add` and `checked_sub` of a u64, and `checked_neg` of the i64 -n
--   take_away                `checked_sub` of a number that may not be there
--   checked_add_i64           `checked_add_i64`
--   clamp_to_u32              `clamp_to_u32`
--   u16, u32, u64, zeros    `write_u16`, `write_u32`, `write_u64` and `write_all(&[0; 124])`
--   oldstyle_header, greeting, reply, export_reply, replyt   what the server writes
--   export_name, sendrequest                                what the client writes
-- What this crate's reading of 000 shares with the port, and why that hides no fault: `pick`, `both`, `either` and `between` are words; `be`, `number` and
-- `same_bytes` stand for byteorder and `==`, and wire's proofs/BigEndian.antt pins them by laws of their own; the table's `records` are 01's, which no part of
-- 000 knows; the types `Export` and `SeekFrom` only hold values.
use Rattle.std.specs.Prelude.{ℕ, suc, ◌+◌, ◌-◌, ◌^◌, Bool, true, false, not, List, [], ◌∷◌, ◌++◌, eqb, ltb, ℤ, pos, negsuc, length, replicate, Option, None, Some}
use Rattle.std.specs.Int.Bits.{bit_and, bit_or}
use Rattle.machine.specs.Choice.{pick, both, between}
use Rattle.wire.specs.Fields.{be}
use Rattle.original.specs.Consts.{NBDMAGIC, IHAVEOPT, OLDSTYLE, NBD_OPT_MAGIC, NBD_OPT_REPLY_MAGIC, NBD_REQUEST_MAGIC, NBD_REPLY_MAGIC, NBD_OPT_EXPORT_NAME}
use Rattle.original.specs.Consts.{NBD_FLAG_FIXED_NEWSTYLE, NBD_FLAG_NO_ZEROES, NBD_FLAG_C_FIXED_NEWSTYLE, NBD_FLAG_HAS_FLAGS, NBD_FLAG_READ_ONLY, NBD_FLAG_SEND_FLUSH, NBD_FLAG_ROTATIONAL, NBD_FLAG_SEND_TRIM, NBD_FLAG_SEND_RESIZE}

unfoldable pub has : ℕ → ℕ → Bool
has flags k = not (eqb (bit_and flags k) 0)

-- ---- the flags that answer EXPORT_NAME
pub record Fields : Type 0 where
  pub readonly : Bool
  pub resizeable : Bool
  pub rotational : Bool
  pub send_trim : Bool

-- the callback's: "flags (1: bit 0 read-only, 1 resizeable, 2 rotational, 3 send_trim)"
abbrev pub table_fields : ℕ → Fields
table_fields flags = record { readonly = has flags 1; resizeable = has flags 2; rotational = has flags 4; send_trim = has flags 8 }

-- `if b { flags |= k }`
abbrev pub or_if : Bool → ℕ → ℕ → ℕ
or_if b k flags = pick b (bit_or flags k) flags

unfoldable pub export_flags : Fields → ℕ
export_flags e =
    or_if e.send_trim NBD_FLAG_SEND_TRIM
    (or_if e.rotational NBD_FLAG_ROTATIONAL
    (or_if e.resizeable NBD_FLAG_SEND_RESIZE
    (bit_or NBD_FLAG_HAS_FLAGS (pick e.readonly NBD_FLAG_READ_ONLY NBD_FLAG_SEND_FLUSH))))

-- ---- `from_utf8` takes the texts of RFC 3629: by UTF8-char of its section 4, which bytes follow a first one; none where that begins no character
abbrev pub tail : ℕ → Bool
tail = between 0x80 0xBF

unfoldable pub behind : ℕ → Option (List (ℕ → Bool))
behind a =
    pick (between 0x00 0x7F a) (Some [])
    (pick (between 0xC2 0xDF a) (Some (tail ∷ []))
    (pick (between 0xE0 0xE0 a) (Some (between 0xA0 0xBF ∷ tail ∷ []))
    (pick (between 0xE1 0xEC a) (Some (tail ∷ tail ∷ []))
    (pick (between 0xED 0xED a) (Some (between 0x80 0x9F ∷ tail ∷ []))
    (pick (between 0xEE 0xEF a) (Some (tail ∷ tail ∷ []))
    (pick (between 0xF0 0xF0 a) (Some (between 0x90 0xBF ∷ tail ∷ tail ∷ []))
    (pick (between 0xF1 0xF3 a) (Some (tail ∷ tail ∷ tail ∷ []))
    (pick (between 0xF4 0xF4 a) (Some (between 0x80 0x8F ∷ tail ∷ tail ∷ [])) None))))))))

abbrev pub begins : Option (List (ℕ → Bool)) → (List (ℕ → Bool) → Bool) → Bool
begins None more = false
begins (Some follow) more = more follow

-- the bytes that complete a character, and then characters
unfoldable pub octets : List (ℕ → Bool) → List ℕ → Bool
unfolding behind
octets [] [] = true
octets [] (a ∷ l) = begins (behind a) (λ follow. octets follow l)
octets (r ∷ follow) [] = false
octets (r ∷ follow) (b ∷ l) = both (r b) (octets follow l)

abbrev pub from_utf8 : List ℕ → Bool
from_utf8 l = octets [] l

-- ---- numbers: `checked_add` and `checked_sub` of a u64, and `checked_neg` of the i64 -n
abbrev pub checked_add : ℕ → ℕ → Option ℕ
checked_add a b = pick (ltb (2 ^ 64 - 1) (a + b)) None (Some (a + b))

abbrev pub checked_sub : ℕ → ℕ → Option ℕ
checked_sub a b = pick (ltb a b) None (Some (a - b))

abbrev pub checked_neg : ℕ → Option ℕ
checked_neg n = pick (eqb n (2 ^ 63)) None (Some n)

abbrev pub take_away : ℕ → Option ℕ → Option ℕ
take_away a None = None
take_away a (Some b) = checked_sub a b

-- `negsuc n` is -(n + 1)
unfoldable pub checked_add_i64 : ℕ → ℤ → Option ℕ
checked_add_i64 a (pos n) = checked_add a n
checked_add_i64 a (negsuc n) = take_away a (checked_neg (suc n))

unfoldable pub clamp_to_u32 : ℕ → ℕ
clamp_to_u32 n = pick (ltb (2 ^ 32 - 1) n) (2 ^ 32 - 1) n

-- ---- what is written
abbrev pub u16 : ℕ → List ℕ
u16 = be 2

abbrev pub u32 : ℕ → List ℕ
u32 = be 4

abbrev pub u64 : ℕ → List ℕ
u64 = be 8

abbrev pub zeros : List ℕ
zeros = replicate 124 0

-- by the server
unfoldable pub oldstyle_header : ℕ → ℕ → List ℕ
oldstyle_header size flags = NBDMAGIC ++ OLDSTYLE ++ u64 size ++ u32 flags ++ zeros

unfoldable pub greeting : List ℕ
greeting = NBDMAGIC ++ IHAVEOPT ++ u16 (bit_or NBD_FLAG_FIXED_NEWSTYLE NBD_FLAG_NO_ZEROES)

unfoldable pub reply : ℕ → ℕ → List ℕ → List ℕ
reply clopt rtype data' = u64 NBD_OPT_REPLY_MAGIC ++ u32 clopt ++ u32 rtype ++ u32 (length data') ++ data'

unfoldable pub export_reply : ℕ → ℕ → Bool → List ℕ
export_reply size flags zeroes = u64 size ++ u16 flags ++ pick zeroes zeros []

unfoldable pub replyt : ℕ → ℕ → List ℕ
replyt error handle = u32 NBD_REPLY_MAGIC ++ u32 error ++ u64 handle

-- by the client: its handshake; and a request, whose flags and handle are 0
unfoldable pub export_name : List ℕ → List ℕ
export_name name = u32 NBD_FLAG_C_FIXED_NEWSTYLE ++ u64 NBD_OPT_MAGIC ++ u32 NBD_OPT_EXPORT_NAME ++ u32 (length name) ++ name

unfoldable pub sendrequest : ℕ → ℕ → ℕ → List ℕ
sendrequest cmd offset len = u32 NBD_REQUEST_MAGIC ++ u16 0 ++ u16 cmd ++ u64 0 ++ u64 offset ++ u32 len
