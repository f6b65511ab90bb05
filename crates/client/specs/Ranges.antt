-- The ranges of docs/STATES.md, and what a step refuses.
--   ranged_shaking n p, ranged_call d c, ranged_progress c p   the ranges of a handshake with a name of n bytes, of a call, and of how far it is
--   part d n      whether n is above 0, and n bytes from the position on do not pass the size
--   ends n        whether n is a number that ends a session
--   ranged x      whether a state is within its ranges
--   tidy s        whether the bytes of `head` that the phase does not use are 0
--   in_range s    both: else the client is refused as 53
--   lent_to c      how many bytes are lent while the call is open
--   same_loan k x  whether what is lent, k bytes, has the length that it had at the start
--   refusal k s   why a step is refused, with k bytes lent: 53, then 52; 0 where it is not
--   number why    01's number of a refusal
--   refusal_of    why a step is refused, by the code's answer
use Rattle.std.specs.Prelude.{ℕ, ◌+◌, Bool, true, false, eqb, ltb, leb, length, drop, ⊤, Result, Ok, Err}
use Rattle.machine.specs.Choice.{pick, both, either, between}
use Rattle.machine.specs.Parts.{blank}
use Rattle.client.specs.Calls.{payload, wanted}
use Rattle.client.specs.Session.{Handshake, Magic, Style, Newstyle, Hello, Naming, SizeAndFlags, Filler, Progress, Asking, Paying, Hearing, Filling}
use Rattle.client.specs.Session.{State, Blank, Shaking, Ready, Calling, Closed, Over, size_and_flags_length}
use Rattle.client.specs.View.{view, used}
use Rattle.client.specs.declared.state.Device.{Device}
use Rattle.client.specs.declared.state.Call.{Call}
use Rattle.client.specs.declared.state.Call.TheVariants.{Read, Write, Flush, Trim, Resize}
use Rattle.client.specs.declared.state.Client.{Client}
use Rattle.client.specs.declared.refusal.Refusal.{Refusal}
use Rattle.client.specs.declared.refusal.Refusal.TheVariants.{LongName, SeekOutside, PastSize, NotNow, OtherLength, OutOfRange}

-- ---- the ranges
abbrev pub ranged_shaking : ℕ → Handshake → Bool
ranged_shaking n (Magic got) = ltb (length got) 8
ranged_shaking n (Style got) = ltb (length got) 8
ranged_shaking n (Newstyle left) = between 1 2 left
ranged_shaking n (Hello left) = between 1 20 left
ranged_shaking n (Naming left) = between 1 n left
ranged_shaking n (SizeAndFlags old got) = ltb (length got) (size_and_flags_length old)
ranged_shaking n (Filler size flags clean left) = between 1 124 left

-- some bytes from the position on, and none past the size
abbrev pub part : Device → ℕ → Bool
part d n = both (ltb 0 n) (leb (d.position + n) d.size)

abbrev pub ranged_call : Device → Call → Bool
ranged_call d (Read n len) = both (leb n len) (part d n)
ranged_call d (Write n len) = both (leb n len) (part d n)
ranged_call d Flush = true
ranged_call d (Trim n) = part d n
ranged_call d (Resize size) = true

abbrev pub ranged_progress : Call → Progress → Bool
ranged_progress c (Asking left) = between 1 28 left
ranged_progress c (Paying left) = between 1 (payload c) left
ranged_progress c (Hearing got) = ltb (length got) 16
ranged_progress c (Filling left) = between 1 (wanted c) left

-- the numbers that end a session
abbrev pub ends : ℕ → Bool
ends n = either (between 40 43 n) (either (between 45 46 n) (eqb n 50))

abbrev pub ranged : State → Bool
ranged Blank = true
ranged (Shaking n p) = both (leb n 4096) (ranged_shaking n p)
ranged (Ready d) = true
ranged (Calling d c p) = both (ranged_call d c) (ranged_progress c p)
ranged (Closed o d) = false
ranged (Over n) = ends n

-- ---- zeros in what is not used
abbrev pub tidy : Client → Bool
tidy s = blank (drop (used s.phase) s.head)

abbrev pub in_range : Client → Bool
in_range s = both (tidy s) (ranged (view s))

-- ---- what a step refuses: "while open, buffer or name length differs from the start"
abbrev pub lent_to : Call → ℕ
lent_to (Read n len) = len
lent_to (Write n len) = len
lent_to Flush = 0
lent_to (Trim n) = 0
lent_to (Resize size) = 0

abbrev pub same_loan : ℕ → State → Bool
same_loan k Blank = true
same_loan k (Shaking n p) = eqb n k
same_loan k (Ready d) = true
same_loan k (Calling d c p) = eqb (lent_to c) k
same_loan k (Closed o d) = true
same_loan k (Over n) = true

abbrev pub refusal : ℕ → Client → ℕ
refusal k s = pick (in_range s) (pick (same_loan k (view s)) 0 52) 53

-- ---- 01's numbers
abbrev pub number : Refusal → ℕ
number LongName = 44
number SeekOutside = 48
number PastSize = 49
number NotNow = 51
number OtherLength = 52
number OutOfRange = 53

abbrev pub refusal_of : Result ⊤ Refusal → ℕ
refusal_of (Ok t) = 0
refusal_of (Err why) = number why
