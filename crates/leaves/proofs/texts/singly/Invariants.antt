-- The state so far, run over what is left, is the state of the whole text.
use mathlib.Core.Path.{◌≡◌}
use lib.ListN.{drop}
use Rattle.wire.specs.Utf8.{run}
use Rattle.leaves.proofs.texts.singly.Given as goal

abbrev pub invariant-loop-b : goal.invariant-loop-b
invariant-loop-b l = run l.u (drop l.b-index l.v) ≡ run l.initial.u l.v
