-- What stands on the wire, as lists of bytes, in the protocol text's order of fields.
--   greeting                        the server's first 18 bytes
--   option_reply_head option type n   the fields of a reply to an option, before its data of n bytes
--   option_reply option type data    a reply to an option
--   zeros                           the 124 zero bytes
--   export_reply size flags zeroes   the reply to EXPORT_NAME, with the 124 behind it if `zeroes` says so
--   oldstyle_header size flags       all that an old-style server sends before requests
--   option_request option data       an option, from the client
--   export_name name                 what our client sends in its handshake: its flags and one option
--   request flags type handle offset length   a request's 28 bytes
--   simple_reply error handle        a reply's 16 bytes
use Rattle.std.specs.Prelude.{ℕ, Bool, List, [], ◌++◌, length, replicate}
use Rattle.machine.specs.Choice.{pick}
use Rattle.wire.specs.Fields.{be}
use Rattle.wire.specs.Constants.{NBDMAGIC, IHAVEOPT, OLDSTYLE, NBD_OPT_REPLY_MAGIC, NBD_REQUEST_MAGIC, NBD_REPLY_MAGIC, NBD_FLAG_C_FIXED_NEWSTYLE, NBD_OPT_EXPORT_NAME}

-- ---- the handshake
unfoldable pub greeting : List ℕ
greeting = NBDMAGIC ++ IHAVEOPT ++ be 2 3

-- the fields before the data, which has n bytes
unfoldable pub option_reply_head : ℕ → ℕ → ℕ → List ℕ
option_reply_head option type n = be 8 NBD_OPT_REPLY_MAGIC ++ be 4 option ++ be 4 type ++ be 4 n

unfoldable pub option_reply : ℕ → ℕ → List ℕ → List ℕ
unfolding option_reply_head
option_reply option type data' = option_reply_head option type (length data') ++ data'

abbrev pub zeros : List ℕ
zeros = replicate 124 0

unfoldable pub export_reply : ℕ → ℕ → Bool → List ℕ
export_reply size flags zeroes = be 8 size ++ be 2 flags ++ pick zeroes zeros []

unfoldable pub oldstyle_header : ℕ → ℕ → List ℕ
oldstyle_header size flags = NBDMAGIC ++ OLDSTYLE ++ be 8 size ++ be 4 flags ++ zeros

unfoldable pub option_request : ℕ → List ℕ → List ℕ
option_request option data' = IHAVEOPT ++ be 4 option ++ be 4 (length data') ++ data'

unfoldable pub export_name : List ℕ → List ℕ
export_name name = be 4 NBD_FLAG_C_FIXED_NEWSTYLE ++ option_request NBD_OPT_EXPORT_NAME name

-- ---- the transmission
unfoldable pub request : ℕ → ℕ → ℕ → ℕ → ℕ → List ℕ
request flags type handle offset len = be 4 NBD_REQUEST_MAGIC ++ be 2 flags ++ be 2 type ++ be 8 handle ++ be 8 offset ++ be 4 len

unfoldable pub simple_reply : ℕ → ℕ → List ℕ
simple_reply error handle = be 4 NBD_REPLY_MAGIC ++ be 4 error ++ be 8 handle
