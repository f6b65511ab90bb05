-- What is left is behind the line.
use Rattle.host.specs.Text.{Behind}
use Rattle.host.proofs.text.quoted.Given as goal

abbrev pub invariant-loop-len : goal.invariant-loop-len
invariant-loop-len l = Behind l.line l.left
