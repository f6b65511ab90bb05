-- `transmission` of document 000's server, on values. The device is a `Cursor` over the export's window, whose `seek` never fails.
--   Next            a request was answered and the loop goes on, or the function ends
--   fails           it ends with a number, and nothing was sent
--   to_wire          `write_all` on the connection, which takes all
--   read_done, after_read     READ, by how many bytes were copied; by what `mycopy` comes to
--   write_done, after_write   WRITE likewise
--   reads, writes   READ and WRITE, by `mycopy`
--   command         the match on a request's type
--   header          a request's fields
--   one_request      one turn of the loop
--   onward          how the loop goes on
--   transmission    the loop
use Rattle.std.specs.Prelude.{ℕ, zero, suc, not, List, [], ◌++◌, eqb, drop, Option, None, Some}
use Rattle.machine.specs.Choice.{pick}
use Rattle.original.specs.Consts.{NBD_REQUEST_MAGIC, NBD_CMD_READ, NBD_CMD_WRITE, NBD_CMD_DISC, NBD_CMD_FLUSH, NBD_CMD_TRIM, NBD_CMD_WRITE_ZEROES}
use Rattle.original.specs.Leaves.{replyt}
use Rattle.original.specs.Connection.{read_number, Outcome, ended, sudden_eof, Served, sends}
use Rattle.original.specs.Copy.{Written, all, Copied, mycopy, Cursor, write_all}

-- what was sent, what the device holds and what is left of the input
pub data Next : Type 0 where
  again : List ℕ → List ℕ → List ℕ → Next
  stop : List ℕ → List ℕ → List ℕ → Outcome → Next

-- an error where nothing was sent
abbrev pub fails : ℕ → List ℕ → List ℕ → Next
fails n device left = stop [] device left (ended n)

-- ---- READ: the writer is the connection, which takes all, so that no write fails; the reply stands before the first byte
abbrev pub to_wire : List ℕ → List ℕ → Written (List ℕ)
to_wire sent bytes = all (sent ++ bytes)

abbrev pub read_done : ℕ → List ℕ → List ℕ → List ℕ → Option ℕ → Next
read_done length device left sent None = stop sent device left sudden_eof
read_done length device left sent (Some n) = pick (eqb n length) (again sent device left) (stop sent device left sudden_eof)

abbrev pub after_read : ℕ → List ℕ → List ℕ → Copied (List ℕ) → Next
after_read length device left c = read_done length device left c.to c.count

abbrev pub reads : ℕ → ℕ → ℕ → List ℕ → List ℕ → Next
reads handle offset length device left =
    after_read length device left (mycopy to_wire (λ sent. sent ++ replyt 0 handle) (drop offset device) [] length)

-- ---- WRITE: the reader is the connection; an error of the device is 5, for it has no number of the system's
abbrev pub write_done : ℕ → ℕ → List ℕ → List ℕ → Option ℕ → Next
write_done handle length device left None = again (replyt 5 handle) device left
write_done handle length device left (Some n) = pick (eqb n length) (again (replyt 0 handle) device left) (stop [] device left sudden_eof)

abbrev pub after_write : ℕ → ℕ → Copied Cursor → Next
after_write handle length c = write_done handle length c.to.bytes c.from c.count

abbrev pub writes : ℕ → ℕ → ℕ → List ℕ → List ℕ → Next
writes handle offset length device left =
    after_write handle length (mycopy write_all (λ same. same) left (record { bytes = device; position = offset }) length)

-- ---- the match on the type
unfoldable pub command : ℕ → ℕ → ℕ → ℕ → List ℕ → List ℕ → Next
command typ handle offset length device left =
    pick (eqb typ NBD_CMD_READ) (reads handle offset length device left)
    (pick (eqb typ NBD_CMD_WRITE) (writes handle offset length device left)
    (pick (eqb typ NBD_CMD_DISC) (fails 0 device left)
    (pick (eqb typ NBD_CMD_FLUSH) (again (replyt 0 handle) device left)
    (pick (eqb typ NBD_CMD_TRIM) (again (replyt 38 handle) device left)
    (pick (eqb typ NBD_CMD_WRITE_ZEROES) (again (replyt 38 handle) device left)
    (fails 11 device left))))))

-- ---- a request's fields, one after the other; `then` is what follows
abbrev pub header : {R : Type 0} → List ℕ → R → (List ℕ → R) → (ℕ → ℕ → ℕ → ℕ → List ℕ → R) → R
header input short other then =
    read_number 4 input short λ magic left.
    pick (not (eqb magic NBD_REQUEST_MAGIC)) (other left)
    (read_number 2 left short λ flags left.
    read_number 2 left short λ typ left.
    read_number 8 left short λ handle left.
    read_number 8 left short λ offset left.
    read_number 4 left short λ length left.
    then typ handle offset length left)

unfoldable pub one_request : List ℕ → List ℕ → Next
one_request device input = header input (fails 12 device []) (fails 10 device) (λ typ handle offset length left. command typ handle offset length device left)

-- how the loop goes on
abbrev pub onward : Next → (List ℕ → List ℕ → Served) → Served
onward (again sent device left) more = sends sent (more device left)
onward (stop sent device left outcome) more = record { left = left; sent = sent; device = device; outcome = outcome }

-- the loop, which turns once for each request; every request has 28 bytes, so that the turns never run out
unfoldable pub transmission : ℕ → List ℕ → List ℕ → Served
transmission zero device input = record { left = []; sent = []; device = device; outcome = ended 12 }
transmission (suc k) device input = onward (one_request device input) (transmission k)
