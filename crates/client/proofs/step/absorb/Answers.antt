-- A client that rests wants no byte, and an empty input is taken at once.
use borrow.Author.Rules.{rules}
use Rattle.machine.proofs.Leaves.{absorbs_none, absorbs_idle}
use Rattle.client.proofs.Resting.{phase_wants}
use Rattle.client.proofs.step.absorb.Goals as goal

pub returns-in_default : goal.returns-in_default
returns-in_default c =
    let s = c.args.s in
    rw c.none-in_default.ensures (absorbs_idle (phase_wants s.head c.args.lent.now s.phase c.in_default.not-Shaking c.in_default.not-Calling))

pub returns-in-Shaking : goal.returns-in-Shaking
returns-in-Shaking c = rw c.in-Shaking.is (c.absorb.ensures _)

pub returns-then-is_empty : goal.returns-then-is_empty
returns-then-is_empty c = rw c.none.ensures (absorbs_none (search rules))
