-- The second byte narrows what the first has left.
use Rattle.leaves.specs.Names.{changed}
use Rattle.leaves.proofs.names.in_both.Goals as goal

pub returns : goal.returns
unfolding changed
returns c =
    rw (
      c.lowest.ensures,
      c.narrowed.ensures,
      c.narrowed-a.ensures,
      c.started.ensures,
    )
