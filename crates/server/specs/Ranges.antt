-- The ranges of docs/STATES.md, and what a step refuses.
--   unsupported     whether an option is one of those that are declined: 6, 7, 8 and 11
--   ranged_shaking, ranged_serving   the ranges of a handshake and of a transmission
--   part e off left   whether a part of the window is not empty and lies in it
--   replied error   whether a reply with no data may have this error
--   behind e error off len   whether these may be a reply's error and the data behind it: none, or a part of the window behind error 0
--   ranged x        whether a state is within its ranges
--   tidy s          whether the bytes of `head` that the phase does not use are 0
--   in_range s      both: else the server is refused as 27
--   window_fault n e   26 where the export's window passes an image of n bytes, else 0
--   window_fault_shaking n p   the same for the export that a handshake has chosen
--   loan_fault t n x   the part of the refusal that speaks of what is lent
--   refusal t n s   why a step is refused, with the table t and an image of n bytes: 27, then 20 to 25 in the handshake, then 26; 0 where it is not
--   number why      01's number of a refusal
--   refusal_of      why a step is refused, by the code's answer
use Rattle.std.specs.Prelude.{ℕ, ◌+◌, Bool, not, List, eqb, ltb, leb, length, drop, ⊤, Result, Ok, Err}
use Rattle.machine.specs.Choice.{pick, both, either, between}
use Rattle.machine.specs.Parts.{blank}
use Rattle.wire.specs.Constants.{NBD_OPT_EXPORT_NAME, NBD_OPT_INFO, NBD_OPT_GO, NBD_OPT_STRUCTURED_REPLY, NBD_OPT_EXTENDED_HEADERS, NBD_EPERM, NBD_EINVAL, NBD_ENOSPC, NBD_ENOSYS}
use Rattle.wire.specs.Table.{fault, number_of, first_fault, read_only}
use Rattle.wire.specs.declared.table.Export.{Export}
use Rattle.server.specs.Session.{Handshake, Greeting, ClientFlags, OptionHead, Naming, Passing, Listing, Declining, Aborting, Exporting, reply_length}
use Rattle.server.specs.Session.{Transmission, Header, Storing, Dropping, Replying, Sending, State, Shaking, Serving, Over}
use Rattle.server.specs.View.{view, used}
use Rattle.server.specs.declared.state.Server.{Server}
use Rattle.server.specs.declared.refusal.Refusal.{Refusal}
use Rattle.server.specs.declared.refusal.Refusal.TheVariants.{Table, Window, OutOfRange, OutputOwed}

-- ---- the ranges
abbrev pub unsupported : ℕ → Bool
unsupported option =
    either (eqb option NBD_OPT_INFO)
    (either (eqb option NBD_OPT_GO) (either (eqb option NBD_OPT_STRUCTURED_REPLY) (eqb option NBD_OPT_EXTENDED_HEADERS)))

abbrev pub ranged_shaking : Handshake → Bool
ranged_shaking (Greeting left) = between 1 18 left
ranged_shaking (ClientFlags got) = ltb (length got) 4
ranged_shaking (OptionHead z got) = ltb (length got) 16
ranged_shaking (Naming z fits text at left) = both (eqb (length fits) 32) (both (ltb 0 left) (leb (at + left) 100000))
ranged_shaking (Passing z option len left) = both (not (eqb option NBD_OPT_EXPORT_NAME)) (both (between 1 len left) (leb len 100000))
ranged_shaking (Listing z left) = between 1 51 left
ranged_shaking (Declining z option left) = both (unsupported option) (between 1 20 left)
ranged_shaking (Aborting left) = between 1 20 left
ranged_shaking (Exporting z e left) = both (ltb e.flags 16) (between 1 (reply_length z) left)

-- a part of the window that is not empty
abbrev pub part : Export → ℕ → ℕ → Bool
part e off left = both (ltb 0 left) (leb (off + left) e.size)

-- an error that a reply with no data may have
abbrev pub replied : ℕ → Bool
replied error = either (eqb error 0) (either (eqb error NBD_EPERM) (either (eqb error NBD_EINVAL) (either (eqb error NBD_ENOSPC) (eqb error NBD_ENOSYS))))

-- the data behind a reply: none, or a part of the window behind error 0
abbrev pub behind : Export → ℕ → ℕ → ℕ → Bool
behind e error off len = pick (eqb len 0) (both (eqb off 0) (replied error)) (both (eqb error 0) (leb (off + len) e.size))

abbrev pub ranged_serving : Export → Transmission → Bool
ranged_serving e (Header got) = ltb (length got) 28
ranged_serving e (Storing handle off left) = both (not (read_only e.flags)) (part e off left)
ranged_serving e (Dropping error handle left) =
    both (eqb error (pick (read_only e.flags) NBD_EPERM NBD_ENOSPC)) (ltb 0 left)
ranged_serving e (Replying error handle left off len) = both (between 1 16 left) (behind e error off len)
ranged_serving e (Sending off left) = part e off left

abbrev pub ranged : State → Bool
ranged (Shaking p) = ranged_shaking p
ranged (Serving e p) = both (ltb e.flags 16) (ranged_serving e p)
ranged (Over n) = leb n 12

-- ---- zeros in what is not used
abbrev pub tidy : Server → Bool
tidy s = blank (drop (used s.phase) s.head)

abbrev pub in_range : Server → Bool
in_range s = both (tidy s) (ranged (view s))

-- ---- what a step refuses
abbrev pub window_fault : ℕ → Export → ℕ
window_fault n e = pick (leb (e.start + e.size) n) 0 26

-- the export that is chosen, in the handshake
abbrev pub window_fault_shaking : ℕ → Handshake → ℕ
window_fault_shaking n (Greeting left) = 0
window_fault_shaking n (ClientFlags got) = 0
window_fault_shaking n (OptionHead z got) = 0
window_fault_shaking n (Naming z fits text at left) = 0
window_fault_shaking n (Passing z option len left) = 0
window_fault_shaking n (Listing z left) = 0
window_fault_shaking n (Declining z option left) = 0
window_fault_shaking n (Aborting left) = 0
window_fault_shaking n (Exporting z e left) = window_fault n e

abbrev pub loan_fault : List ℕ → ℕ → State → ℕ
loan_fault t n (Shaking p) = first_fault (fault n t) (window_fault_shaking n p)
loan_fault t n (Serving e p) = window_fault n e
loan_fault t n (Over k) = 0

abbrev pub refusal : List ℕ → ℕ → Server → ℕ
refusal t n s = pick (in_range s) (loan_fault t n (view s)) 27

-- ---- 01's numbers
abbrev pub number : Refusal → ℕ
number (Table fault) = number_of fault
number Window = 26
number OutOfRange = 27
number OutputOwed = 28

abbrev pub refusal_of : Result ⊤ Refusal → ℕ
refusal_of (Ok t) = 0
refusal_of (Err why) = number why
