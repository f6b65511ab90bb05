-- a table without its first byte
use mathlib.Core.Path.{refl, ap, ◌∙◌}
use mathlib.Core.List.{List}
use Prim.Native.Nat.{ℕ}
use Rattle.std.specs.Borrow.{Bor}
use Rattle.wire.specs.Table.{records, records_in}
use Rattle.wire.proofs.Walks.{records_few}
use Rattle.wire.proofs.Iterations.{behind_version}
use Rattle.wire.proofs.records.Records.of.Goals as goal

pub returns-clause-begun : goal.returns-clause-begun
returns-clause-begun c = (
  refl,
  ap (λ (p : Bor (List ℕ)). p.now) c.unwrap_or.ensures ∙ behind_version c.args.table.now c.get.result _ refl c.get.ensures.lookup.0,
)

pub returns-clause-all : goal.returns-clause-all
unfolding records
returns-clause-all c = let b = returns-clause-begun c in ap (records_in 32) b.1

pub returns-clause-few : goal.returns-clause-few
returns-clause-few c = rw (returns-clause-all c) (records_few c.args.table.now)
