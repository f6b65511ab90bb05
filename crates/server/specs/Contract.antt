-- What the public functions ensure.
--   number_of      01's number for each outcome
--   outcome_of x   the outcome of a step that went as far as x
--   number_at      01's number for each place where a step ends
--   Refuses, Accepts, Serves   a step: refused, with nothing changed; or as far as the input and the room go; and which of the two
--   owes_output x  whether output is owed
--   cut_off s      the end of input in a session that goes on: refused where output is owed, else 12
--   ended_at, end_of_input      the end of input: by the state, and by the server
--   end_number_at, end_number   its number: by the state, and by the server
--   Closes        the host reports the end of input
--   header_of      01's number for each answer of the old-style header
--   Heads         the old-style header
use Rattle.std.specs.Prelude.{ℕ, ◌≡◌, Bool, List, [], ◌++◌, ltb, length, drop, ⊤, Option, None, Some, Result, Ok, Err}
use Rattle.machine.specs.Choice.{pick}
use Rattle.machine.specs.Machine.{on, owes}
use Rattle.machine.specs.Pieces.{Steps}
use Rattle.wire.specs.Layouts.{oldstyle_header}
use Rattle.server.specs.Session.{State, Shaking, Serving, Over, turn}
use Rattle.server.specs.View.{view, code}
use Rattle.server.specs.Ranges.{in_range, refusal}
use Rattle.server.specs.declared.state.Server.{Server}
use Rattle.server.specs.Answers.{Stepped, InputEnded}
use Rattle.server.specs.declared.oldstyle.NoRoom.{NoRoom}
use Rattle.server.specs.declared.state.Outcome.{Outcome}
use Rattle.server.specs.declared.state.Outcome.TheVariants.{GoingOn, Ended, Refused}

-- "a session going on or a call that succeeds answers without a number"
abbrev pub number_of : Outcome → Option ℕ
number_of GoingOn = None
number_of (Ended n) = Some n
number_of (Refused n) = Some n

-- what a step that went as far as it could ends with
abbrev pub outcome_of : State → Outcome
outcome_of (Shaking p) = GoingOn
outcome_of (Serving e p) = GoingOn
outcome_of (Over n) = Ended n

-- and 01's number there
abbrev pub number_at : State → Option ℕ
number_at (Shaking p) = None
number_at (Serving e p) = None
number_at (Over n) = Some n

module _ (self : Server) (t m input room : List ℕ) (r : Stepped) (m' room' : List ℕ) where
  -- "All others change nothing at all"
  pub record Refuses : Type 0 where
    pub result : r ≡ record { state = self; taken = 0; given = 0; outcome = Refused (refusal t (length m) self) }
    pub number : number_of r.outcome ≡ Some (refusal t (length m) self)
    pub same_image : m' ≡ m
    pub same_room : room' ≡ room

  -- "takes input and gives output as far as it can"
  pub record Accepts : Type 0 where
    pub steps : Steps (turn t) (on (view self) m) input room r.taken r.given (on (view r.state) m') room'
    pub one_struct : r.state ≡ code (view r.state)
    pub outcome : r.outcome ≡ outcome_of (view r.state)
    pub number : number_of r.outcome ≡ number_at (view r.state)

  pub record Serves : Type 0 where
    pub refuses : (refusal t (length m) self ≡ 0 → ⊥) → Refuses
    pub accepts : refusal t (length m) self ≡ 0 → Accepts

-- whether output is owed shows without a table or an image
abbrev pub owes_output : State → Bool
owes_output x = owes (turn [] (on x []))

-- "End of input is reported by a call of its own, without bytes: 27, ended, 28, 12"
abbrev pub cut_off : Server → Bool → InputEnded
cut_off s owed = pick owed (record { state = s; outcome = Refused 28 }) (record { state = code (Over 12); outcome = Ended 12 })

abbrev pub ended_at : Server → State → InputEnded
ended_at s (Shaking p) = cut_off s (owes_output (Shaking p))
ended_at s (Serving e p) = cut_off s (owes_output (Serving e p))
ended_at s (Over n) = record { state = s; outcome = Ended n }

abbrev pub end_of_input : Server → InputEnded
end_of_input s = pick (in_range s) (ended_at s (view s)) (record { state = s; outcome = Refused 27 })

abbrev pub end_number_at : State → ℕ
end_number_at (Shaking p) = pick (owes_output (Shaking p)) 28 12
end_number_at (Serving e p) = pick (owes_output (Serving e p)) 28 12
end_number_at (Over n) = n

abbrev pub end_number : Server → ℕ
end_number s = pick (in_range s) (end_number_at (view s)) 27

pub record Closes (s : Server) (r : InputEnded) : Type 0 where
  pub result : r ≡ end_of_input s
  pub number : number_of r.outcome ≡ Some (end_number s)

-- "room under 152 bytes for the old-style header": 13, and nothing changes
abbrev pub header_of : Result ⊤ NoRoom → Option ℕ
header_of (Ok t) = None
header_of (Err why) = Some 13

pub record Heads (room : List ℕ) (size flags : ℕ) (r : Result ⊤ NoRoom) (room' : List ℕ) : Type 0 where
  pub number : header_of r ≡ pick (ltb (length room) 152) (Some 13) None
  pub written : room' ≡ pick (ltb (length room) 152) room (oldstyle_header size flags ++ drop 152 room)
