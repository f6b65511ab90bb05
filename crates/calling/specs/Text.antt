-- What a line of the client's shows.
--   value_shown   the value of a call that succeeds, as a line shows it
--   called_of     what an outcome says in a line
--   is_resize     whether a call is a resize
--   resizing     whether the open call is a resize, whose line shows the client's size
--   size_of       that size
use Rattle.std.specs.Prelude.{ℕ, Bool, true, false, Option, Some, None}
use Rattle.lines.specs.declared.answer.Answer.{Answer}
use Rattle.lines.specs.declared.answer.Answer.TheVariants.{On, Done, Fail, End, No}
use Rattle.client.specs.declared.state.Value.{Value}
use Rattle.client.specs.declared.state.Value.TheVariants.{Opened, Bytes, Position, Nothing}
use Rattle.client.specs.declared.state.Call.{Call}
use Rattle.client.specs.declared.state.Call.TheVariants.{Read, Write, Flush, Trim, Resize}
use Rattle.client.specs.declared.state.Device.{Device}
use Rattle.client.specs.declared.state.Phase.{Phase}
use Rattle.client.specs.declared.state.Phase.TheVariants.{Blank, Shaking, Ready, Calling, Closed, Over}
use Rattle.client.specs.declared.state.Outcome.{Outcome}
use Rattle.client.specs.declared.state.Outcome.TheVariants as outcome

-- `none` stands where a call gives no value
abbrev pub value_shown : ℕ → Value → ℕ
value_shown none (Opened size f) = size
value_shown none (Bytes n) = n
value_shown none (Position p) = p
value_shown none Nothing = none

abbrev pub called_of : ℕ → Outcome → Answer
called_of none outcome.Open = On
called_of none (outcome.Succeeded v) = Done (value_shown none v)
called_of none (outcome.Failed e) = Fail e
called_of none (outcome.Ended n) = End n
called_of none (outcome.Refused n) = No n

abbrev pub is_resize : Call → Bool
is_resize (Read n len) = false
is_resize (Write n len) = false
is_resize Flush = false
is_resize (Trim n) = false
is_resize (Resize size) = true

abbrev pub resizing : Phase → Bool
resizing Blank = false
resizing (Shaking n h) = false
resizing (Ready d) = false
resizing (Calling d c p) = is_resize c
resizing (Closed o d) = false
resizing (Over n) = false

abbrev pub size_of : Option Device → ℕ
size_of (Some d) = d.size
size_of None = 0
