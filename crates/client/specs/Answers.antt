-- What a client's calls answer.
--   Stepped   a step: where the client stands then, what was taken and given, and how it went
--   Called    a call, or the end of input, which moves no byte
use Rattle.machine.specs.declared.ends.Stepped as step
use Rattle.machine.specs.declared.ends.Answered.{Answered}
use Rattle.client.specs.declared.state.Client.{Client}
use Rattle.client.specs.declared.state.Outcome.{Outcome}

abbrev pub Stepped : Type 0
Stepped = step.Stepped Client Outcome

abbrev pub Called : Type 0
Called = Answered Client Outcome
