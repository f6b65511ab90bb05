-- What is absorbed and then emitted is one turn; what is emitted starts from a place that is still good.
use Rattle.machine.specs.Machine.{still}
use Rattle.machine.proofs.Glue.{turned}
use Rattle.machine.proofs.ends.turn.Goals as goal

pub absorb-took-requires : goal.absorb-took-requires
absorb-took-requires g c = (c.requires _ _ _ _ still).0

pub emit-gave-requires : goal.emit-gave-requires
emit-gave-requires g c = (c.requires _ _ _ _ c.absorb-took.ensures.moves).0

pub returns : goal.returns
returns g c = turned c.absorb-took.ensures c.emit-gave.ensures
