-- after i turns the first i bytes of x are pasted
use mathlib.Core.Path.{◌≡◌}
use lib.Seq.{paste}
use Rattle.wire.specs.Fields.{be}
use Rattle.wire.proofs.fields.put_number.Given as goal

abbrev pub invariant-loop-i : goal.invariant-loop-i
invariant-loop-i l = l.dst ≡ paste l.initial.dst l.at (be l.n l.x) l.i
