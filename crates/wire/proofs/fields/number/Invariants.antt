-- the bytes so far stand for x
use mathlib.Core.Path.{◌≡◌}
use lib.ListN.{take}
use Rattle.wire.specs.Fields.{number}
use Rattle.wire.proofs.fields.number.Given as goal

abbrev pub invariant-loop-b : goal.invariant-loop-b
invariant-loop-b l = l.x ≡ number (take l.b-index l.bytes)
