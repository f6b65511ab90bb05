-- `handshake` of document 000's server, on values.
--   Shaken        an export was chosen, or it failed with 01's number; what is left of the input and what was sent
--   writes, fails, cut   bytes are sent before the rest; it fails with nothing more sent; it fails where a read meets the end of the input
--   lookup        the callback: the first record of that name
--   zeroes        whether the client's flags leave the 124 bytes in the reply to EXPORT_NAME
--   found         EXPORT_NAME, by the callback's answer
--   option        the match on an option whose payload was read
--   options       the loop
--   handshake t   the whole, with the table t
use Rattle.std.specs.Prelude.{ℕ, zero, suc, Bool, not, List, [], ◌∷◌, ◌++◌, eqb, ltb, length, Option, None, Some}
use Rattle.std.specs.Int.Bits.{bit_or}
use Rattle.machine.specs.Choice.{pick, both}
use Rattle.wire.specs.Fields.{same_bytes}
use Rattle.wire.specs.Table.{Record, records}
use Rattle.wire.specs.declared.table.Export.{Export}
use Rattle.original.specs.Consts.{rustnbd, NBD_OPT_MAGIC, NBD_OPT_EXPORT_NAME, NBD_OPT_ABORT, NBD_OPT_LIST, NBD_OPT_STARTTLS, NBD_OPT_INFO, NBD_OPT_GO, NBD_OPT_STRUCTURED_REPLY, NBD_OPT_EXTENDED_HEADERS}
use Rattle.original.specs.Consts.{NBD_REP_ACK, NBD_REP_SERVER, NBD_REP_ERR_UNSUP, NBD_FLAG_C_FIXED_NEWSTYLE, NBD_FLAG_C_NO_ZEROES}
use Rattle.original.specs.Leaves.{has, export_flags, table_fields, from_utf8, greeting, reply, export_reply}
use Rattle.original.specs.Connection.{read_exact, read_number}

pub data Shaken : Type 0 where
  chose : Export → List ℕ → List ℕ → Shaken
  failed : ℕ → List ℕ → List ℕ → Shaken

abbrev pub writes : List ℕ → Shaken → Shaken
writes bytes (chose e left sent) = chose e left (bytes ++ sent)
writes bytes (failed n left sent) = failed n left (bytes ++ sent)

-- an error before anything more is sent
abbrev pub fails : ℕ → List ℕ → Shaken
fails n left = failed n left []

-- a read that met the end of the input
abbrev pub cut : Shaken
cut = fails 12 []

abbrev pub lookup : List Record → List ℕ → Option Export
lookup [] name = None
lookup (r ∷ rs) name = pick (same_bytes r.name name) (Some (record { start = r.start; size = r.size; flags = r.flags })) (lookup rs name)

-- `client_flags & NBD_FLAG_C_NO_ZEROES == 0`
abbrev pub zeroes : ℕ → Bool
zeroes flags = not (has flags NBD_FLAG_C_NO_ZEROES)

abbrev pub found : ℕ → List ℕ → Option Export → Shaken
found flags left None = fails 6 left
found flags left (Some e) = writes (export_reply e.size (export_flags (table_fields e.flags)) (zeroes flags)) (chose e left [])

-- `more` is the loop, with what is left of the input
unfoldable pub option : List ℕ → ℕ → ℕ → List ℕ → List ℕ → (List ℕ → Shaken) → Shaken
option t flags clopt opt left more =
    pick (eqb clopt NBD_OPT_EXPORT_NAME) (pick (from_utf8 opt) (found flags left (lookup (records t) opt)) (fails 5 left))
    (pick (eqb clopt NBD_OPT_ABORT) (writes (reply clopt NBD_REP_ACK []) (fails 7 left))
    (pick (eqb clopt NBD_OPT_LIST)
    (pick (eqb (length opt) 0)
    (writes (reply clopt NBD_REP_SERVER rustnbd) (writes (reply clopt NBD_REP_ACK []) (more left)))
    (fails 4 left))
    (pick (eqb clopt NBD_OPT_STARTTLS) (fails 8 left)
    (pick (eqb clopt NBD_OPT_INFO) (writes (reply clopt NBD_REP_ERR_UNSUP []) (more left))
    (pick (eqb clopt NBD_OPT_GO) (writes (reply clopt NBD_REP_ERR_UNSUP []) (more left))
    (pick (eqb clopt NBD_OPT_STRUCTURED_REPLY) (writes (reply clopt NBD_REP_ERR_UNSUP []) (more left))
    (pick (eqb clopt NBD_OPT_EXTENDED_HEADERS) (writes (reply clopt NBD_REP_ERR_UNSUP []) (more left))
    (fails 9 left))))))))

-- the loop, which turns once for each option; every option has 16 bytes, so that the turns never run out
unfoldable pub options : List ℕ → ℕ → ℕ → List ℕ → Shaken
options t flags zero input = cut
options t flags (suc k) input =
    read_number 8 input cut λ optmagic left.
    pick (not (eqb optmagic NBD_OPT_MAGIC)) (fails 2 left)
    (read_number 4 left cut λ clopt left.
    read_number 4 left cut λ optlen left.
    pick (ltb 100000 optlen) (fails 3 left)
    (read_exact optlen left cut λ opt left.
    option t flags clopt opt left (options t flags k)))

unfoldable pub handshake : List ℕ → List ℕ → Shaken
handshake t input =
    writes greeting
    (read_number 4 input cut λ flags left.
    pick (both (not (eqb flags NBD_FLAG_C_FIXED_NEWSTYLE)) (not (eqb flags (bit_or NBD_FLAG_C_FIXED_NEWSTYLE NBD_FLAG_C_NO_ZEROES)))) (fails 1 left)
    (options t flags (suc (length left)) left))
