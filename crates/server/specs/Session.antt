-- The server's session, a byte at a time. Everything that moves it stands in this file.
--
-- A session begins with the greeting owed. It then takes the client's flags, and options one after the other: an option's 16 bytes are gathered,
-- its payload is taken whole, and only then is it answered. A name is looked at as it passes and is never stored: the set of the exports that
-- still fit it, and the UTF-8 state. The option that chooses an export is answered, and from then on the session takes requests: 28 bytes are
-- gathered, judged by `owed` of Request.antt, and what is owed is done: a reply, a reply and data of the window, a payload stored or dropped.
-- While output is owed nothing is taken. "Over" is the end; it rests.
--
--   Handshake, Transmission        where a handshake stands; where a transmission stands
--   State                          where a session stands
--   window e m                     the bytes of the image in the export's window
--   list_replies, declined, aborted, exported   the replies to LIST, to an option that is not supported, to ABORT and to EXPORT_NAME
--   greeted, listing, declining, aborting, exporting   the state when so many bytes are left of the greeting, and of each of these replies
--   sending, replying              the state when so many bytes are left of the data, and of a reply, with data behind it or none
--   answering                      a reply with no data is owed
--   storing, dropping              the state when so many bytes are left of a payload that is stored, and of one that is refused
--   judge_flags                     the state after so many bytes of the client's flags
--   answered, passing              an option whose payload was taken, other than EXPORT_NAME; the state when so many bytes of that payload are left
--   reply_length z                  how long the reply to EXPORT_NAME is
--   export_at t k                   the export of record k of the table
--   found, named                   a name whose last byte was taken: by the record that is chosen; by the set and the text
--   naming                         the state when so many bytes of a name are left
--   payload, judge_option           the state after an option's 16 bytes; the state after so many of them
--   ending_number why              01's number for each end that the code names
--   begun, requested               the state after a request's 28 bytes, by what it is owed; the state after so many of them
--   turn t                         one byte, with the table t and the image lent
use Rattle.std.specs.Prelude.{ℕ, zero, suc, ◌+◌, Bool, true, false, List, [], ◌∷◌, ◌++◌, eqb, ltb, leb, length, get_or, set, take, drop, Option, None, Some}
use Rattle.machine.specs.Choice.{pick}
use Rattle.machine.specs.Machine.{On, on, Turn, gives, takes, rests}
use Rattle.machine.specs.Parts.{less, owing}
use Rattle.wire.specs.Fields.{be, number, field, same_bytes}
use Rattle.wire.specs.Constants.{IHAVEOPT, rustnbd, NBD_REQUEST_MAGIC, NBD_OPT_EXPORT_NAME, NBD_OPT_ABORT, NBD_OPT_LIST, NBD_OPT_STARTTLS, NBD_OPT_INFO, NBD_OPT_GO, NBD_OPT_STRUCTURED_REPLY, NBD_OPT_EXTENDED_HEADERS, NBD_REP_ACK, NBD_REP_SERVER, NBD_REP_ERR_UNSUP}
use Rattle.wire.specs.Layouts.{greeting, option_reply, export_reply, simple_reply}
use Rattle.wire.specs.Utf8.{next, whole}
use Rattle.wire.specs.Table.{records, no_record, wire_flags, export_of}
use Rattle.wire.specs.Lookup.{started, narrowed, chosen}
use Rattle.wire.specs.declared.utf8.Utf8.{Utf8}
use Rattle.wire.specs.declared.utf8.Utf8.TheVariants.{Start}
use Rattle.wire.specs.declared.table.Export.{Export}
use Rattle.server.specs.Request.{request_of, owed}
use Rattle.server.specs.declared.ending.Ending.{Ending}
use Rattle.server.specs.declared.ending.Ending.TheVariants as ending
use Rattle.server.specs.declared.request.Request.{Request}
use Rattle.server.specs.declared.request.Answer.{Answer}
use Rattle.server.specs.declared.request.Answer.TheVariants.{Silence, Reply, Data, Store, Swallow, End}

-- The Bool says whether the reply to EXPORT_NAME ends in 124 zero bytes: the client's flags were 1 and not 3.
pub data Handshake : Type 0 where
  Greeting : ℕ → Handshake  -- so many bytes of the greeting are owed
  ClientFlags : List ℕ → Handshake  -- the bytes of the client's flags so far
  OptionHead : Bool → List ℕ → Handshake  -- the bytes of an option's magic, type and length so far
  Naming : Bool → List Bool → Utf8 → ℕ → ℕ → Handshake  -- a name: the exports that fit it so far, its text so far, its next place, and how many bytes are left
  Passing : Bool → ℕ → ℕ → ℕ → Handshake  -- another option's payload: the option, the payload's length, and how many bytes are left
  Listing : Bool → ℕ → Handshake  -- so many bytes of the replies to LIST are owed
  Declining : Bool → ℕ → ℕ → Handshake  -- an option that is not supported, and how many bytes of the reply are owed
  Aborting : ℕ → Handshake  -- so many bytes of the reply to ABORT are owed
  Exporting : Bool → Export → ℕ → Handshake  -- the export that is chosen, and how many bytes of the reply are owed

pub data Transmission : Type 0 where
  Header : List ℕ → Transmission  -- the bytes of a request so far
  Storing : ℕ → ℕ → ℕ → Transmission  -- payload for the window: the handle, the place in the window, and how many bytes are left
  Dropping : ℕ → ℕ → ℕ → Transmission  -- payload that is refused: the error, the handle, and how many bytes are left
  Replying : ℕ → ℕ → ℕ → ℕ → ℕ → Transmission  -- a reply: its error and handle, how many bytes are owed, and which part of the window after them
  Sending : ℕ → ℕ → Transmission  -- a part of the window is owed: its place and its length

pub data State : Type 0 where
  Shaking : Handshake → State
  Serving : Export → Transmission → State
  Over : ℕ → State  -- the session has ended, with this number

-- the bytes of the image in the export's window
abbrev pub window : Export → List ℕ → List ℕ
window e m = take e.size (drop e.start m)

-- ---- the replies of the handshake
unfoldable pub list_replies : List ℕ
list_replies = option_reply NBD_OPT_LIST NBD_REP_SERVER (be 4 7 ++ rustnbd) ++ option_reply NBD_OPT_LIST NBD_REP_ACK []

abbrev pub declined : ℕ → List ℕ
declined option = option_reply option NBD_REP_ERR_UNSUP []

abbrev pub aborted : List ℕ
aborted = option_reply NBD_OPT_ABORT NBD_REP_ACK []

abbrev pub exported : Bool → Export → List ℕ
exported z e = export_reply e.size (wire_flags e.flags) z

-- ---- the states that follow where nothing may be left
abbrev pub greeted : ℕ → State
greeted zero = Shaking (ClientFlags [])
greeted (suc left) = Shaking (Greeting (suc left))

abbrev pub listing : Bool → ℕ → State
listing z zero = Shaking (OptionHead z [])
listing z (suc left) = Shaking (Listing z (suc left))

abbrev pub declining : Bool → ℕ → ℕ → State
declining z option zero = Shaking (OptionHead z [])
declining z option (suc left) = Shaking (Declining z option (suc left))

abbrev pub aborting : ℕ → State
aborting zero = Over 7
aborting (suc left) = Shaking (Aborting (suc left))

abbrev pub exporting : Bool → Export → ℕ → State
exporting z e zero = Serving e (Header [])
exporting z e (suc left) = Shaking (Exporting z e (suc left))

abbrev pub sending : Export → ℕ → ℕ → State
sending e off zero = Serving e (Header [])
sending e off (suc left) = Serving e (Sending off (suc left))

abbrev pub replying : Export → ℕ → ℕ → ℕ → ℕ → ℕ → State
replying e error handle zero off len = sending e off len
replying e error handle (suc left) off len = Serving e (Replying error handle (suc left) off len)

-- a reply with no data
abbrev pub answering : Export → ℕ → ℕ → State
answering e error handle = Serving e (Replying error handle 16 0 0)

abbrev pub storing : Export → ℕ → ℕ → ℕ → State
storing e handle off zero = answering e 0 handle
storing e handle off (suc left) = Serving e (Storing handle off (suc left))

abbrev pub dropping : Export → ℕ → ℕ → ℕ → State
dropping e error handle zero = answering e error handle
dropping e error handle (suc left) = Serving e (Dropping error handle (suc left))

-- ---- the client's flags: "must be 1 or 3"
unfoldable pub judge_flags : List ℕ → State
judge_flags h =
    pick (ltb (length h) 4) (Shaking (ClientFlags h))
    (pick (eqb (number h) 1) (Shaking (OptionHead true [])) (pick (eqb (number h) 3) (Shaking (OptionHead false [])) (Over 1)))

-- ---- an option whose payload has been taken, other than EXPORT_NAME
unfoldable pub answered : Bool → ℕ → ℕ → State
answered z option len =
    pick (eqb option NBD_OPT_ABORT) (Shaking (Aborting 20))
    (pick (eqb option NBD_OPT_LIST) (pick (eqb len 0) (Shaking (Listing z 51)) (Over 4))
    (pick (eqb option NBD_OPT_STARTTLS) (Over 8)
    (pick (eqb option NBD_OPT_INFO) (Shaking (Declining z option 20))
    (pick (eqb option NBD_OPT_GO) (Shaking (Declining z option 20))
    (pick (eqb option NBD_OPT_STRUCTURED_REPLY) (Shaking (Declining z option 20))
    (pick (eqb option NBD_OPT_EXTENDED_HEADERS) (Shaking (Declining z option 20)) (Over 9)))))))

abbrev pub passing : Bool → ℕ → ℕ → ℕ → State
passing z option len zero = answered z option len
passing z option len (suc left) = Shaking (Passing z option len (suc left))

-- ---- a name whose last byte has been taken, with the table lent in that step
abbrev pub reply_length : Bool → ℕ
reply_length z = pick z 134 10

abbrev pub export_at : List ℕ → ℕ → Export
export_at t k = export_of (get_or (records t) k no_record)

abbrev pub found : Bool → List ℕ → Option ℕ → State
found z t None = Over 6
found z t (Some k) = Shaking (Exporting z (export_at t k) (reply_length z))

unfoldable pub named : Bool → List ℕ → List Bool → Utf8 → State
named z t fits text = pick (whole text) (found z t (chosen fits)) (Over 5)

abbrev pub naming : Bool → List ℕ → List Bool → Utf8 → ℕ → ℕ → State
naming z t fits text at zero = named z t fits text
naming z t fits text at (suc left) = Shaking (Naming z fits text at (suc left))

-- ---- an option's 16 bytes: "Magic is judged after its 8 bytes, length after its 4, everything else only after the whole payload is taken"
unfoldable pub payload : Bool → List ℕ → ℕ → ℕ → State
payload z t option len =
    pick (leb len 100000)
    (pick (eqb option NBD_OPT_EXPORT_NAME) (naming z t (started (records t) len) Start 0 len) (passing z option len len))
    (Over 3)

unfoldable pub judge_option : Bool → List ℕ → List ℕ → State
judge_option z t h =
    pick (eqb (length h) 8) (pick (same_bytes h IHAVEOPT) (Shaking (OptionHead z h)) (Over 2))
    (pick (ltb (length h) 16) (Shaking (OptionHead z h)) (payload z t (field h 8 4) (field h 12 4)))

-- ---- the ends of a session, by 01's numbers
abbrev pub ending_number : Ending → ℕ
ending_number ending.Disconnected = 0
ending_number ending.ClientFlags = 1
ending_number ending.OptionMagic = 2
ending_number ending.OptionLength = 3
ending_number ending.ListPayload = 4
ending_number ending.NameText = 5
ending_number ending.UnknownName = 6
ending_number ending.Aborted = 7
ending_number ending.StartTls = 8
ending_number ending.UnknownOption = 9
ending_number ending.RequestMagic = 10
ending_number ending.UnknownRequest = 11
ending_number ending.InputEnded = 12

-- ---- a request's 28 bytes: "The magic is judged after 4 bytes, the type after all 28"
abbrev pub begun : Export → Request → Answer → State
begun e r Silence = Serving e (Header [])
begun e r (Reply error) = answering e error r.handle
begun e r Data = Serving e (Replying 0 r.handle 16 r.offset r.len)
begun e r Store = storing e r.handle r.offset r.len
begun e r (Swallow error) = dropping e error r.handle r.len
begun e r (End why) = Over (ending_number why)

unfoldable pub requested : Export → List ℕ → State
requested e h =
    pick (eqb (length h) 4) (pick (eqb (number h) NBD_REQUEST_MAGIC) (Serving e (Header h)) (Over 10))
    (pick (ltb (length h) 28) (Serving e (Header h)) (begun e (request_of h) (owed e (request_of h))))

-- ---- one byte
abbrev pub turn : List ℕ → On State → Turn (On State)
turn t (on (Shaking (Greeting left)) m) = gives (owing greeting left) (on (greeted (less left)) m)
turn t (on (Shaking (ClientFlags got)) m) = takes (λ b. on (judge_flags (got ++ b ∷ [])) m)
turn t (on (Shaking (OptionHead z got)) m) = takes (λ b. on (judge_option z t (got ++ b ∷ [])) m)
turn t (on (Shaking (Naming z fits text at left)) m) =
    takes (λ b. on (naming z t (narrowed (records t) at b fits) (next text b) (suc at) (less left)) m)
turn t (on (Shaking (Passing z option len left)) m) = takes (λ b. on (passing z option len (less left)) m)
turn t (on (Shaking (Listing z left)) m) = gives (owing list_replies left) (on (listing z (less left)) m)
turn t (on (Shaking (Declining z option left)) m) = gives (owing (declined option) left) (on (declining z option (less left)) m)
turn t (on (Shaking (Aborting left)) m) = gives (owing aborted left) (on (aborting (less left)) m)
turn t (on (Shaking (Exporting z e left)) m) = gives (owing (exported z e) left) (on (exporting z e (less left)) m)
turn t (on (Serving e (Header got)) m) = takes (λ b. on (requested e (got ++ b ∷ [])) m)
turn t (on (Serving e (Storing handle off left)) m) = takes (λ b. on (storing e handle (suc off) (less left)) (set m (e.start + off) b))
turn t (on (Serving e (Dropping error handle left)) m) = takes (λ b. on (dropping e error handle (less left)) m)
turn t (on (Serving e (Replying error handle left off len)) m) =
    gives (owing (simple_reply error handle) left) (on (replying e error handle (less left) off len) m)
turn t (on (Serving e (Sending off left)) m) = gives (get_or (window e m) off 0) (on (sending e (suc off) (less left)) m)
turn t (on (Over n) m) = rests
