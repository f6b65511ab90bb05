-- after each sound record, the first fault of the rest is that of the table
use Prim.Native.Nat.{◌-◌}
use mathlib.Core.Path.{◌≡◌}
use Rattle.wire.specs.Table.{faults, fault}
use Rattle.wire.proofs.table.check.Given as goal

abbrev pub invariant-loop : goal.invariant-loop
invariant-loop l = fault l.image l.table ≡ faults l.image (32 - l.counter) l.rest
