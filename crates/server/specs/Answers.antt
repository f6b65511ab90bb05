-- What a server's calls answer.
--   Stepped      a step: where the server stands then, what was taken and given, and how it went
--   InputEnded   the end of input, which moves no byte
use Rattle.machine.specs.declared.ends.Stepped as step
use Rattle.machine.specs.declared.ends.Answered.{Answered}
use Rattle.server.specs.declared.state.Server.{Server}
use Rattle.server.specs.declared.state.Outcome.{Outcome}

abbrev pub Stepped : Type 0
Stepped = step.Stepped Server Outcome

abbrev pub InputEnded : Type 0
InputEnded = Answered Server Outcome
