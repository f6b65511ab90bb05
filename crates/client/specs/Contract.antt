-- What the public functions ensure.
--   number_of, values_of         01's number and values for each outcome
--   fields_values, values_in     the values of an export's fields, each 0 or 1; the values of a call that succeeds
--   fresh                      a new client
--   answer x o, refused why s  a call's answer with the state x and the outcome o; and one that is refused, with the client as it was
--   call_check_at, call_check     whether a call may be made, by the state, and by the client: 53, then 51
--   called s f                 a call that f makes on the device, if a call may be made
--   opened d c                 a call that goes out
--   granted_at, granted_on, granted   how many bytes a call may move: on a device, behind the check, on a client
--   begun d c, moving          a call that moves bytes: of none it succeeds at once, else it goes out; the same if it was granted
--   reading, writing, trimming, flushing, resizing, seeking, shaken   the calls; the last is the handshake
--   sought_to, shaken_at         a seek, by the position that it leads to; the handshake, by the state
--   ended_at, end_of_input        the host reports the end of input: by the state, and by the client
--   known_at, known             what a user asks: by the state, and by the client
--   after x, outcome_of x       where a client stands after a step that went as far as x, and the step's outcome
--   number_at, values_at         01's number and values for each place where a step ends
--   Refuses, Accepts, Drives   a step: refused, with nothing changed; or as far as the input and the room go; and which of the two
use Rattle.std.specs.Prelude.{ℕ, ◌≡◌, List, [], ◌∷◌, eqb, leb, length, Result, Ok, Err, Option, None, Some}
use Rattle.machine.specs.Choice.{pick}
use Rattle.machine.specs.Machine.{on}
use Rattle.machine.specs.Pieces.{Steps}
use Rattle.client.specs.Calls.{transfer, sought, amount, positioned, value_of}
use Rattle.client.specs.Session.{Magic, Asking, State, Blank, Shaking, Ready, Calling, Closed, Over, turn}
use Rattle.client.specs.View.{view, code}
use Rattle.client.specs.Ranges.{in_range, refusal, number}
use Rattle.client.specs.declared.state.Fields.{Fields}
use Rattle.client.specs.declared.state.Device.{Device}
use Rattle.client.specs.declared.state.Call.{Call}
use Rattle.client.specs.declared.state.Call.TheVariants.{Read, Write, Flush, Trim, Resize}
use Rattle.client.specs.declared.state.Value.{Value}
use Rattle.client.specs.declared.state.Value.TheVariants as value
use Rattle.client.specs.declared.state.Outcome.{Outcome}
use Rattle.client.specs.declared.state.Outcome.TheVariants.{Open, Succeeded, Failed, Ended, Refused}
use Rattle.client.specs.declared.state.Client.{Client}
use Rattle.client.specs.declared.state.SeekFrom.{SeekFrom}
use Rattle.client.specs.Answers.{Called, Stepped}
use Rattle.client.specs.declared.Transfer.{Transfer}
use Rattle.client.specs.declared.refusal.Refusal.{Refusal}
use Rattle.client.specs.declared.refusal.Refusal.TheVariants.{PastSize, NotNow, OutOfRange}

-- ---- 01's numbers and values: "a call that succeeds answers without a number"
abbrev pub number_of : Outcome → Option ℕ
number_of Open = None
number_of (Succeeded v) = None
number_of (Failed error) = Some 47
number_of (Ended n) = Some n
number_of (Refused n) = Some n

abbrev pub fields_values : Fields → List ℕ
fields_values f =
    pick f.readonly 1 0 ∷ pick f.resizeable 1 0 ∷ pick f.rotational 1 0 ∷ pick f.send_trim 1 0 ∷ pick f.send_flush 1 0 ∷ []

abbrev pub values_in : Value → List ℕ
values_in (value.Opened size f) = size ∷ fields_values f
values_in (value.Bytes n) = n ∷ []
values_in (value.Position p) = p ∷ []
values_in value.Nothing = []

abbrev pub values_of : Outcome → List ℕ
values_of Open = []
values_of (Succeeded v) = values_in v
values_of (Failed error) = error ∷ []
values_of (Ended n) = []
values_of (Refused n) = []

-- ---- calls
abbrev pub fresh : Client
fresh = code Blank

abbrev pub answer : State → Outcome → Called
answer x o = record { state = code x; outcome = o }

-- "All others change nothing at all"
abbrev pub refused : ℕ → Client → Called
refused why s = record { state = s; outcome = Refused why }

-- whether a call may be made: 53, then 51, "call while one is open, before ready or after an end"
abbrev pub call_check_at : State → Result Device Refusal
call_check_at Blank = Err NotNow
call_check_at (Shaking n p) = Err NotNow
call_check_at (Ready d) = Ok d
call_check_at (Calling d c p) = Err NotNow
call_check_at (Closed o d) = Err NotNow
call_check_at (Over n) = Err NotNow

abbrev pub call_check : Client → Result Device Refusal
call_check s = pick (in_range s) (call_check_at (view s)) (Err OutOfRange)

abbrev pub called : Client → (Device → Called) → Result Device Refusal → Called
called s f (Ok d) = f d
called s f (Err why) = refused (number why) s

-- a call that goes out
abbrev pub opened : Device → Call → Called
opened d c = answer (Calling d c (Asking 28)) Open

-- how many bytes a call may move: then 49, "position past size"
abbrev pub granted_at : Device → Option ℕ → Result Transfer Refusal
granted_at d None = Err PastSize
granted_at d (Some n) = Ok (record { device = d; n = n })

abbrev pub granted_on : ℕ → Result Device Refusal → Result Transfer Refusal
granted_on k (Ok d) = granted_at d (transfer d k)
granted_on k (Err why) = Err why

abbrev pub granted : ℕ → Client → Result Transfer Refusal
granted k s = granted_on k (call_check s)

-- "n = 0 sends nothing and succeeds"
abbrev pub begun : Device → Call → Called
begun d c = pick (eqb (amount c) 0) (answer (Ready d) (Succeeded (value_of c))) (opened d c)

abbrev pub moving : Client → (ℕ → Call) → Result Transfer Refusal → Called
moving s f (Ok t) = begun t.device (f t.n)
moving s f (Err why) = refused (number why) s

-- by the length of the buffer, or of what is to be trimmed
abbrev pub reading : ℕ → Client → Called
reading len s = moving s (λ n. Read n len) (granted len s)

abbrev pub writing : ℕ → Client → Called
writing len s = moving s (λ n. Write n len) (granted len s)

abbrev pub trimming : ℕ → Client → Called
trimming len s = moving s Trim (granted len s)

abbrev pub flushing : Client → Called
flushing s = called s (λ d. opened d Flush) (call_check s)

abbrev pub resizing : ℕ → Client → Called
resizing size s = called s (λ d. opened d (Resize size)) (call_check s)

abbrev pub sought_to : Client → Device → Option ℕ → Called
sought_to s d None = refused 48 s
sought_to s d (Some p) = answer (Ready (positioned d p)) (Succeeded (value.Position p))

abbrev pub seeking : SeekFrom → Client → Called
seeking f s = called s (λ d. sought_to s d (sought d f)) (call_check s)

-- the handshake, by the length of the name: 53, 51, 44
abbrev pub shaken_at : ℕ → Client → State → Called
shaken_at n s Blank = pick (leb n 4096) (answer (Shaking n (Magic [])) Open) (refused 44 s)
shaken_at n s (Shaking k p) = refused 51 s
shaken_at n s (Ready d) = refused 51 s
shaken_at n s (Calling d c p) = refused 51 s
shaken_at n s (Closed o d) = refused 51 s
shaken_at n s (Over k) = refused 51 s

abbrev pub shaken : ℕ → Client → Called
shaken n s = pick (in_range s) (shaken_at n s (view s)) (refused 53 s)

-- ---- the end of input: "53, ended, 50 at the client, whatever it owes"
abbrev pub ended_at : Client → State → Called
ended_at s Blank = answer (Over 50) (Ended 50)
ended_at s (Shaking n p) = answer (Over 50) (Ended 50)
ended_at s (Ready d) = answer (Over 50) (Ended 50)
ended_at s (Calling d c p) = answer (Over 50) (Ended 50)
ended_at s (Closed o d) = answer (Over 50) (Ended 50)
ended_at s (Over n) = record { state = s; outcome = Ended n }

abbrev pub end_of_input : Client → Called
end_of_input s = pick (in_range s) (ended_at s (view s)) (refused 53 s)

-- ---- what a user asks
abbrev pub known_at : State → Option Device
known_at Blank = None
known_at (Shaking n p) = None
known_at (Ready d) = Some d
known_at (Calling d c p) = Some d
known_at (Closed o d) = Some d
known_at (Over n) = None

abbrev pub known : Client → Option Device
known s = pick (in_range s) (known_at (view s)) None

-- ---- a step
-- where a client stands after it: a result is told once and not remembered
abbrev pub after : State → State
after Blank = Blank
after (Shaking n p) = Shaking n p
after (Ready d) = Ready d
after (Calling d c p) = Calling d c p
after (Closed o d) = Ready d
after (Over n) = Over n

-- what a step that went as far as it could ends with
abbrev pub outcome_of : State → Outcome
outcome_of Blank = Open
outcome_of (Shaking n p) = Open
outcome_of (Ready d) = Open
outcome_of (Calling d c p) = Open
outcome_of (Closed o d) = o
outcome_of (Over n) = Ended n

-- and 01's number and values there
abbrev pub number_at : State → Option ℕ
number_at Blank = None
number_at (Shaking n p) = None
number_at (Ready d) = None
number_at (Calling d c p) = None
number_at (Closed o d) = number_of o
number_at (Over n) = Some n

abbrev pub values_at : State → List ℕ
values_at Blank = []
values_at (Shaking n p) = []
values_at (Ready d) = []
values_at (Calling d c p) = []
values_at (Closed o d) = values_of o
values_at (Over n) = []

module _ (self : Client) (m input room : List ℕ) (r : Stepped) (m' room' : List ℕ) where
  pub record Refuses : Type 0 where
    pub result : r ≡ record { state = self; taken = 0; given = 0; outcome = Refused (refusal (length m) self) }
    pub number : number_of r.outcome ≡ Some (refusal (length m) self)
    pub values : values_of r.outcome ≡ []
    pub same_lent : m' ≡ m
    pub same_room : room' ≡ room

  -- "takes input and gives output as far as it can"
  pub record Accepts : Type 0 where
    pub place : State
    pub steps : Steps turn (on (view self) m) input room r.taken r.given (on place m') room'
    pub state : r.state ≡ code (after place)
    pub outcome : r.outcome ≡ outcome_of place
    pub number : number_of r.outcome ≡ number_at place
    pub values : values_of r.outcome ≡ values_at place

  pub record Drives : Type 0 where
    pub refuses : (refusal (length m) self ≡ 0 → ⊥) → Refuses
    pub accepts : refusal (length m) self ≡ 0 → Accepts
