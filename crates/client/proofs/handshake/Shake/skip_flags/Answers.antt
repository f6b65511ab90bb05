-- The bytes are counted and not looked at, which is a run that is dropped.
use Rattle.client.proofs.Runs.{skip_leaf}
use Rattle.client.proofs.handshake.Shake.skip_flags.Goals as goal

pub returns : goal.returns
returns c = λ m input e. skip_leaf _ c.requires (rw e c.min-n.ensures) (rw c.from_parts.ensures (c.newstyle.ensures _))
