-- The phase takes what its leaf takes; an empty input is taken at once, and an ended session takes nothing.
use borrow.Author.Rules.{rules}
use Rattle.machine.proofs.Leaves.{absorbs_none, absorbs_idle}
use Rattle.server.proofs.step.absorb.Goals as goal

pub returns-then-is_empty : goal.returns-then-is_empty
returns-then-is_empty c = rw c.none.ensures (absorbs_none (search rules))

pub returns-in-Shaking : goal.returns-in-Shaking
returns-in-Shaking c = rw c.in-Shaking.is (c.absorb.ensures _)

pub returns-in-Serving : goal.returns-in-Serving
returns-in-Serving c = rw c.in-Serving.is (c.absorb-in-Serving.ensures _)

pub returns-in-Over : goal.returns-in-Over
returns-in-Over c = rw c.none-in-Over.ensures (absorbs_idle (rw c.in-Over.is))
