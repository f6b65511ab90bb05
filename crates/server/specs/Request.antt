-- What a request is owed: the one root of the transmission's rules (01, "Server on the wire").
--   request_of h          the fields of a request's 28 bytes
--   past e r             "offset + length > size as whole numbers"
--   owed_read, owed_write  what a READ and a WRITE are owed
--   owed e r             what the request r is owed of the export e
use Rattle.std.specs.Prelude.{ℕ, ◌+◌, Bool, List, eqb, ltb}
use Rattle.machine.specs.Choice.{pick}
use Rattle.wire.specs.Fields.{field}
use Rattle.wire.specs.Constants.{NBD_CMD_READ, NBD_CMD_WRITE, NBD_CMD_DISC, NBD_CMD_FLUSH, NBD_CMD_TRIM, NBD_CMD_WRITE_ZEROES, NBD_EPERM, NBD_EINVAL, NBD_ENOSPC, NBD_ENOSYS}
use Rattle.wire.specs.Table.{read_only}
use Rattle.wire.specs.declared.table.Export.{Export}
use Rattle.server.specs.declared.ending.Ending.TheVariants.{Disconnected, UnknownRequest}
use Rattle.server.specs.declared.request.Request.{Request}
use Rattle.server.specs.declared.request.Answer.{Answer}
use Rattle.server.specs.declared.request.Answer.TheVariants.{Silence, Reply, Data, Store, Swallow, End}

-- "Request, 28 bytes: 0x25609513, flags (2, ignored), type (2), handle (8), offset (8), length (4)"
abbrev pub request_of : List ℕ → Request
request_of h = record { typ = field h 6 2; handle = field h 8 8; offset = field h 16 8; len = field h 24 4 }

abbrev pub past : Export → Request → Bool
past e r = ltb e.size (r.offset + r.len)

abbrev pub owed_read : Export → Request → Answer
owed_read e r = pick (eqb r.len 0) Silence (pick (past e r) (Reply NBD_EINVAL) Data)

abbrev pub owed_write : Export → Request → Answer
owed_write e r = pick (read_only e.flags) (Swallow NBD_EPERM) (pick (eqb r.len 0) (Reply 0) (pick (past e r) (Swallow NBD_ENOSPC) Store))

unfoldable pub owed : Export → Request → Answer
owed e r =
    pick (eqb r.typ NBD_CMD_READ) (owed_read e r)
    (pick (eqb r.typ NBD_CMD_WRITE) (owed_write e r)
    (pick (eqb r.typ NBD_CMD_DISC) (End Disconnected)
    (pick (eqb r.typ NBD_CMD_FLUSH) (Reply 0)
    (pick (eqb r.typ NBD_CMD_TRIM) (Reply NBD_ENOSYS)
    (pick (eqb r.typ NBD_CMD_WRITE_ZEROES) (Reply NBD_ENOSYS) (End UnknownRequest))))))
