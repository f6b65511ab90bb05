-- The phase gives what its leaf gives; an ended session gives nothing.
use Rattle.machine.proofs.Leaves.{emits_idle}
use Rattle.server.proofs.step.emit.Goals as goal

pub returns-in-Shaking : goal.returns-in-Shaking
returns-in-Shaking c = rw c.in-Shaking.is (c.emit.ensures _ _)

pub returns-in-Serving : goal.returns-in-Serving
returns-in-Serving c = rw c.in-Serving.is (c.emit-in-Serving.ensures _)

pub returns-in-Over : goal.returns-in-Over
returns-in-Over c = rw c.none.ensures (emits_idle (rw c.in-Over.is))
