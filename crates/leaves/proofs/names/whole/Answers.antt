-- The set is started, narrowed by the name, and its lowest one chosen.
use Rattle.leaves.specs.Names.{found}
use Rattle.leaves.proofs.names.whole.Goals as goal

pub returns : goal.returns
unfolding found
returns c =
    rw (c.lowest.ensures, c.narrowed.ensures, c.started-set.ensures)
