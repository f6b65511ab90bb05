-- What a line of the server's shows.
--   line_of      what an outcome says in a line
use Rattle.lines.specs.declared.answer.Answer.{Answer}
use Rattle.lines.specs.declared.answer.Answer.TheVariants.{On, End, No}
use Rattle.server.specs.declared.state.Outcome.{Outcome}
use Rattle.server.specs.declared.state.Outcome.TheVariants as outcome

abbrev pub line_of : Outcome → Answer
line_of outcome.GoingOn = On
line_of (outcome.Ended n) = End n
line_of (outcome.Refused n) = No n
