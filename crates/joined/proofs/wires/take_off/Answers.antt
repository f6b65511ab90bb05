-- The bytes that move to the front are those that are left.
use Rattle.joined.proofs.TakenOff.{all_off}
use native.Mathlib.Omega.{arith}
use mathlib.Core.Path.{◌∙◌}
use Rattle.joined.proofs.wires.take_off.Goals as goal

pub returns : goal.returns
returns c = c.copy_within.ensures.after ∙ all_off c.args.wire.now c.args.count c.args.n (omega arith) (omega arith)
