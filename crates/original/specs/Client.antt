-- Document 000's client, on values.
--   NbdClient          the client: the size and the position
--   at c p             the client with its position at p
--   Answer, Done       what a call comes to; with what is left of the input, what was sent and what the buffer holds
--   stops, sends       a call that ends with an answer, and nothing more sent; bytes that are sent before the rest
--   effective_len       `get_effective_len`
--   getreply           `getreply`, with `check_err`
--   exchange           a request, with its payload behind it, and the reply; then the rest of the call
--   fill               a read's data, into the buffer
--   read_some, write_some, trim_some   a read, a write and a trim, by `get_effective_len`'s answer
--   seek_to, target     a seek, by the position that it leads to; that position
--   Call, made         a call: read, write, flush, trim, resize or seek; what it comes to
--   field, fill_in_flags   one of the five fields, as 0 or 1; all five
--   zeroes             the last of the handshake: the 124 bytes, and the client that is made
--   newstyle, oldstyle   the rest of the handshake behind the second magic, in either style
--   handshake          `handshake`, new style and old
use Rattle.std.specs.Prelude.{ℕ, zero, suc, min, ◌+◌, ◌-◌, ◌%◌, ◌^◌, not, List, [], ◌∷◌, ◌++◌, eqb, ltb, length, take, drop, Option, None, Some}
use Rattle.machine.specs.Choice.{pick}
use Rattle.wire.specs.Fields.{same_bytes}
use Rattle.client.specs.declared.state.SeekFrom.{SeekFrom}
use Rattle.client.specs.declared.state.SeekFrom.TheVariants.{Start, Current, End}
use Rattle.original.specs.Consts.{NBDMAGIC, IHAVEOPT, OLDSTYLE, NBD_REPLY_MAGIC, NBD_FLAG_HAS_FLAGS, NBD_FLAG_READ_ONLY, NBD_FLAG_SEND_FLUSH, NBD_FLAG_ROTATIONAL, NBD_FLAG_SEND_TRIM, NBD_FLAG_SEND_RESIZE}
use Rattle.original.specs.Consts.{NBD_CMD_READ, NBD_CMD_WRITE, NBD_CMD_FLUSH, NBD_CMD_TRIM, NBD_CMD_RESIZE}
use Rattle.original.specs.Leaves.{has, checked_add_i64, clamp_to_u32, zeros, export_name, sendrequest}
use Rattle.original.specs.Connection.{read_exact, read_number}

pub record NbdClient : Type 0 where
  pub size : ℕ
  pub position : ℕ

abbrev pub at : NbdClient → ℕ → NbdClient
at c p = record { size = c.size; position = p }

-- the client afterwards stands with it, but for a fault, after which 000's client is not asked again
pub data Answer : Type 0 where
  ok : List ℕ → NbdClient → Answer  -- the call's values
  failed : ℕ → NbdClient → Answer  -- an error from the device; 000's text tells 1, 5, 12, 22 and 28 from all others
  refused : ℕ → NbdClient → Answer  -- 48 and 49: nothing was sent
  fault : ℕ → Answer  -- 40 to 43, 45, 46 and 50

pub record Done : Type 0 where
  pub left : List ℕ
  pub sent : List ℕ
  pub buffer : List ℕ
  pub answer : Answer

abbrev pub stops : List ℕ → List ℕ → Answer → Done
stops left buffer answer = record { left = left; sent = []; buffer = buffer; answer = answer }

abbrev pub sends : List ℕ → Done → Done
sends bytes d = record { left = d.left; sent = bytes ++ d.sent; buffer = d.buffer; answer = d.answer }

abbrev pub effective_len : NbdClient → ℕ → Option ℕ
effective_len c buflen =
    pick (eqb c.position c.size) (Some 0)
    (pick (ltb c.size c.position) None (Some (min (clamp_to_u32 buflen) (clamp_to_u32 (c.size - c.position)))))

-- all 16 bytes are read, then judged
abbrev pub getreply : {R : Type 0} → List ℕ → R → (ℕ → List ℕ → R) → (ℕ → List ℕ → R) → (List ℕ → R) → R
getreply input short wrong device more =
    read_number 4 input short λ signature left.
    read_number 4 left short λ error left.
    read_number 8 left short λ handle left.
    pick (not (eqb signature NBD_REPLY_MAGIC)) (wrong 45 left)
    (pick (not (eqb handle 0)) (wrong 46 left)
    (pick (not (eqb error 0)) (device error left) (more left)))

-- a request, with its payload behind it, and the reply; then `more`
abbrev pub exchange : NbdClient → List ℕ → List ℕ → List ℕ → (List ℕ → Done) → Done
exchange c bytes buffer input more =
    sends bytes
    (getreply input (stops [] buffer (fault 50)) (λ n left. stops left buffer (fault n)) (λ error left. stops left buffer (failed error c)) more)

-- ---- the calls
-- a read's data: `read_exact` into the buffer
abbrev pub fill : NbdClient → ℕ → List ℕ → List ℕ → Done
fill c n buf left =
    read_exact n left (stops [] (left ++ drop (length left) buf) (fault 50))
    (λ bytes left. stops left (bytes ++ drop n buf) (ok (n ∷ []) (at c (c.position + n))))

abbrev pub read_some : NbdClient → List ℕ → List ℕ → Option ℕ → Done
read_some c buf input None = stops input buf (refused 49 c)
read_some c buf input (Some zero) = stops input buf (ok (0 ∷ []) c)
read_some c buf input (Some (suc n)) = exchange c (sendrequest NBD_CMD_READ c.position (suc n)) buf input (fill c (suc n) buf)

abbrev pub write_some : NbdClient → List ℕ → List ℕ → Option ℕ → Done
write_some c buf input None = stops input buf (refused 49 c)
write_some c buf input (Some zero) = stops input buf (ok (0 ∷ []) c)
write_some c buf input (Some (suc n)) =
    exchange c (sendrequest NBD_CMD_WRITE c.position (suc n) ++ take (suc n) buf) buf input
    (λ left. stops left buf (ok (suc n ∷ []) (at c (c.position + suc n))))

abbrev pub trim_some : NbdClient → List ℕ → Option ℕ → Done
trim_some c input None = stops input [] (refused 49 c)
trim_some c input (Some zero) = stops input [] (ok [] c)
trim_some c input (Some (suc n)) = exchange c (sendrequest NBD_CMD_TRIM c.position (suc n)) [] input (λ left. stops left [] (ok [] c))

abbrev pub seek_to : NbdClient → List ℕ → Option ℕ → Done
seek_to c input None = stops input [] (refused 48 c)
seek_to c input (Some p) = stops input [] (ok (p ∷ []) (at c p))

abbrev pub target : NbdClient → SeekFrom → Option ℕ
target c (Start x) = Some x
target c (Current x) = checked_add_i64 c.position x
target c (End x) = checked_add_i64 c.size x

pub data Call : Type 0 where
  read : List ℕ → Call  -- the buffer
  write : List ℕ → Call  -- the bytes
  flush : Call
  trim : ℕ → Call
  resize : ℕ → Call
  seek : SeekFrom → Call

unfoldable pub made : NbdClient → Call → List ℕ → Done
made c (read buf) input = read_some c buf input (effective_len c (length buf))
made c (write buf) input = write_some c buf input (effective_len c (length buf))
made c flush input = exchange c (sendrequest NBD_CMD_FLUSH 0 0) [] input (λ left. stops left [] (ok [] c))
made c (trim len) input = trim_some c input (effective_len c len)
made c (resize size) input =
    exchange c (sendrequest NBD_CMD_RESIZE size 0) [] input (λ left. stops left [] (ok [] (record { size = size; position = c.position })))
made c (seek f) input = seek_to c input (target c f)

-- ---- the handshake
abbrev pub field : ℕ → ℕ → ℕ
field flags k = pick (has flags NBD_FLAG_HAS_FLAGS) (pick (has flags k) 1 0) 0

abbrev pub fill_in_flags : ℕ → List ℕ
fill_in_flags flags =
    field flags NBD_FLAG_READ_ONLY ∷ field flags NBD_FLAG_SEND_RESIZE ∷ field flags NBD_FLAG_ROTATIONAL ∷ field flags NBD_FLAG_SEND_TRIM ∷ field flags NBD_FLAG_SEND_FLUSH ∷ []

-- the 124 bytes; then the client is made, with its position at 0
abbrev pub zeroes : List ℕ → ℕ → ℕ → List ℕ → Done
zeroes name size flags left =
    read_exact 124 left (stops [] name (fault 50)) λ z left.
    pick (not (same_bytes z zeros)) (stops left name (fault 43))
    (stops left name (ok (size ∷ fill_in_flags flags) (record { size = size; position = 0 })))

abbrev pub newstyle : List ℕ → List ℕ → Done
newstyle name left =
    read_number 2 left (stops [] name (fault 50)) λ hs left.
    sends (export_name name)
    (read_number 8 left (stops [] name (fault 50)) λ size left.
    read_number 2 left (stops [] name (fault 50)) λ flags left.
    zeroes name size flags left)

abbrev pub oldstyle : List ℕ → List ℕ → Done
oldstyle name left =
    pick (not (eqb (length name) 0)) (stops left name (fault 42))
    (read_number 8 left (stops [] name (fault 50)) λ size left.
    read_number 4 left (stops [] name (fault 50)) λ flags left.
    zeroes name size (flags % 2 ^ 16) left)

unfoldable pub handshake : List ℕ → List ℕ → Done
handshake name input =
    read_exact 8 input (stops [] name (fault 50)) λ signature left.
    pick (not (same_bytes signature NBDMAGIC)) (stops left name (fault 40))
    (read_exact 8 left (stops [] name (fault 50)) λ signature left.
    pick (same_bytes signature IHAVEOPT) (newstyle name left)
    (pick (same_bytes signature OLDSTYLE) (oldstyle name left) (stops left name (fault 41))))
