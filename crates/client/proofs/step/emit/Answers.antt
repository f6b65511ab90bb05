-- A client that rests owes no byte.
use Rattle.machine.proofs.Leaves.{emits_idle}
use Rattle.client.proofs.Resting.{phase_owes}
use Rattle.client.proofs.step.emit.Goals as goal

pub returns-in_default : goal.returns-in_default
returns-in_default c =
    let s = c.args.s in
    rw c.none.ensures (emits_idle (phase_owes s.head c.args.lent.now s.phase c.in_default.not-Shaking c.in_default.not-Calling))
