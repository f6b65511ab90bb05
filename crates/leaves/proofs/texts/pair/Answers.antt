-- The text of the two bytes is run from the start.
use Rattle.leaves.proofs.texts.pair.Goals as goal

pub returns : goal.returns
returns c = cc
