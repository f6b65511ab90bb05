-- a table has at most 32 records
use Prim.Native.Nat.{◌≤◌}
use native.Mathlib.Omega.{arith}
use lib.ListN.{length}
use Rattle.wire.specs.Walk.{due}
use mathlib.Core.Logic.{inl}
use Rattle.host.proofs.faults.bad_record.Goals as goal

pub count-good-requires-clause-fits : goal.count-good-requires-clause-fits
count-good-requires-clause-fits c = inl (rw c.take_while.ensures.source (omega (arith, c.of.ensures.few)))

pub overflow_add-result : goal.overflow_add-result
overflow_add-result c =
    let good : c.count-good.result ≤ length (due c.take_while.result.iter) = c.count-good.ensures.bound in
    record { fits = omega (arith, rw c.take_while.ensures.source at good, c.of.ensures.few) }
