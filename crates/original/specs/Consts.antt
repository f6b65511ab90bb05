-- Document 000's constants as literals read from lib.rs: `mod consts` under its own names, and the magics, which its functions write out, under the port's.
-- Nothing of the port's values stands here, so that one that is changed there is refused (the first laws of proofs/Leaves.antt).
-- `1 << k` is 2 ^ k, and `|` is bit_or. What no function of 000 uses is left out.
--   NBDMAGIC, IHAVEOPT, OLDSTYLE, rustnbd                                              the fixed strings; the last with its length before it
--   NBD_OPT_MAGIC, NBD_OPT_REPLY_MAGIC, NBD_REQUEST_MAGIC, NBD_REPLY_MAGIC             magic numbers
--   NBD_OPT_EXPORT_NAME, NBD_OPT_ABORT, NBD_OPT_LIST, NBD_OPT_STARTTLS                 options
--   NBD_OPT_INFO, NBD_OPT_GO, NBD_OPT_STRUCTURED_REPLY, NBD_OPT_EXTENDED_HEADERS       options
--   NBD_REP_ACK, NBD_REP_SERVER, NBD_REP_FLAG_ERROR, NBD_REP_ERR_UNSUP                 option replies; the third is the bit of those that are errors
--   NBD_FLAG_FIXED_NEWSTYLE, NBD_FLAG_NO_ZEROES                                        handshake flags of the server
--   NBD_FLAG_C_FIXED_NEWSTYLE, NBD_FLAG_C_NO_ZEROES                                    handshake flags of the client
--   NBD_FLAG_HAS_FLAGS, NBD_FLAG_READ_ONLY, NBD_FLAG_SEND_FLUSH                        an export's flags
--   NBD_FLAG_ROTATIONAL, NBD_FLAG_SEND_TRIM, NBD_FLAG_SEND_RESIZE                      an export's flags
--   NBD_CMD_READ, NBD_CMD_WRITE, NBD_CMD_DISC, NBD_CMD_FLUSH                           request types
--   NBD_CMD_TRIM, NBD_CMD_WRITE_ZEROES, NBD_CMD_RESIZE                                 request types
use Rattle.std.specs.Prelude.{ℕ, ◌^◌, List, [], ◌∷◌}
use Rattle.std.specs.Int.Bits.{bit_or}

-- ---- the fixed strings: b"NBDMAGIC", b"IHAVEOPT", b"\x00\x00\x42\x02\x81\x86\x12\x53" and b"\x00\x00\x00\x07rustnbd"
abbrev pub NBDMAGIC : List ℕ
NBDMAGIC = 0x4E ∷ 0x42 ∷ 0x44 ∷ 0x4D ∷ 0x41 ∷ 0x47 ∷ 0x49 ∷ 0x43 ∷ []

abbrev pub IHAVEOPT : List ℕ
IHAVEOPT = 0x49 ∷ 0x48 ∷ 0x41 ∷ 0x56 ∷ 0x45 ∷ 0x4F ∷ 0x50 ∷ 0x54 ∷ []

abbrev pub OLDSTYLE : List ℕ
OLDSTYLE = 0x00 ∷ 0x00 ∷ 0x42 ∷ 0x02 ∷ 0x81 ∷ 0x86 ∷ 0x12 ∷ 0x53 ∷ []

abbrev pub rustnbd : List ℕ
rustnbd = 0x00 ∷ 0x00 ∷ 0x00 ∷ 0x07 ∷ 0x72 ∷ 0x75 ∷ 0x73 ∷ 0x74 ∷ 0x6E ∷ 0x62 ∷ 0x64 ∷ []

-- ---- magic numbers
abbrev pub NBD_OPT_MAGIC : ℕ
NBD_OPT_MAGIC = 0x49484156454F5054

abbrev pub NBD_OPT_REPLY_MAGIC : ℕ
NBD_OPT_REPLY_MAGIC = 0x3E889045565A9

abbrev pub NBD_REQUEST_MAGIC : ℕ
NBD_REQUEST_MAGIC = 0x25609513

abbrev pub NBD_REPLY_MAGIC : ℕ
NBD_REPLY_MAGIC = 0x67446698

-- ---- options
abbrev pub NBD_OPT_EXPORT_NAME : ℕ
NBD_OPT_EXPORT_NAME = 1

abbrev pub NBD_OPT_ABORT : ℕ
NBD_OPT_ABORT = 2

abbrev pub NBD_OPT_LIST : ℕ
NBD_OPT_LIST = 3

abbrev pub NBD_OPT_STARTTLS : ℕ
NBD_OPT_STARTTLS = 5

abbrev pub NBD_OPT_INFO : ℕ
NBD_OPT_INFO = 6

abbrev pub NBD_OPT_GO : ℕ
NBD_OPT_GO = 7

abbrev pub NBD_OPT_STRUCTURED_REPLY : ℕ
NBD_OPT_STRUCTURED_REPLY = 8

abbrev pub NBD_OPT_EXTENDED_HEADERS : ℕ
NBD_OPT_EXTENDED_HEADERS = 11

-- ---- option replies
abbrev pub NBD_REP_ACK : ℕ
NBD_REP_ACK = 1

abbrev pub NBD_REP_SERVER : ℕ
NBD_REP_SERVER = 2

abbrev pub NBD_REP_FLAG_ERROR : ℕ
NBD_REP_FLAG_ERROR = 2 ^ 31

abbrev pub NBD_REP_ERR_UNSUP : ℕ
NBD_REP_ERR_UNSUP = bit_or 1 NBD_REP_FLAG_ERROR

-- ---- handshake flags
abbrev pub NBD_FLAG_FIXED_NEWSTYLE : ℕ
NBD_FLAG_FIXED_NEWSTYLE = 2 ^ 0

abbrev pub NBD_FLAG_NO_ZEROES : ℕ
NBD_FLAG_NO_ZEROES = 2 ^ 1

abbrev pub NBD_FLAG_C_FIXED_NEWSTYLE : ℕ
NBD_FLAG_C_FIXED_NEWSTYLE = NBD_FLAG_FIXED_NEWSTYLE

abbrev pub NBD_FLAG_C_NO_ZEROES : ℕ
NBD_FLAG_C_NO_ZEROES = NBD_FLAG_NO_ZEROES

-- ---- an export's flags
abbrev pub NBD_FLAG_HAS_FLAGS : ℕ
NBD_FLAG_HAS_FLAGS = 2 ^ 0

abbrev pub NBD_FLAG_READ_ONLY : ℕ
NBD_FLAG_READ_ONLY = 2 ^ 1

abbrev pub NBD_FLAG_SEND_FLUSH : ℕ
NBD_FLAG_SEND_FLUSH = 2 ^ 2

abbrev pub NBD_FLAG_ROTATIONAL : ℕ
NBD_FLAG_ROTATIONAL = 2 ^ 4

abbrev pub NBD_FLAG_SEND_TRIM : ℕ
NBD_FLAG_SEND_TRIM = 2 ^ 5

abbrev pub NBD_FLAG_SEND_RESIZE : ℕ
NBD_FLAG_SEND_RESIZE = 2 ^ 9

-- ---- request types
abbrev pub NBD_CMD_READ : ℕ
NBD_CMD_READ = 0

abbrev pub NBD_CMD_WRITE : ℕ
NBD_CMD_WRITE = 1

abbrev pub NBD_CMD_DISC : ℕ
NBD_CMD_DISC = 2

abbrev pub NBD_CMD_FLUSH : ℕ
NBD_CMD_FLUSH = 3

abbrev pub NBD_CMD_TRIM : ℕ
NBD_CMD_TRIM = 4

abbrev pub NBD_CMD_WRITE_ZEROES : ℕ
NBD_CMD_WRITE_ZEROES = 6

abbrev pub NBD_CMD_RESIZE : ℕ
NBD_CMD_RESIZE = 8
