use mathlib.Core.Path.{sym, ap, ◌∙◌}
use native.Mathlib.Omega.{arith}
use borrow.Author.Tests.{eqb-true, eqb-false}
use Rattle.wire.specs.Table.{records}
use Rattle.wire.specs.Lookup.{set_of}
use Rattle.wire.specs.Walk.{due}
use Rattle.wire.proofs.Walks.{records_few}
use Rattle.wire.proofs.Sieves.{sieved_lt, sieved_set, narrowed_sieved, narrowed_none, sieve_start, sieve_turn, sieve_fits, sieve_end}
use Rattle.wire.proofs.lookup.narrowed.Invariants.{fitting}
use Rattle.wire.proofs.lookup.narrowed.Goals as goal

pub returns-then-is_empty : goal.returns-then-is_empty
returns-then-is_empty c =
    let a = c.args in
    sym (narrowed_none (records a.table.now) a.at a.part.now (set_of a.set) (eqb-true _ _ (sym c.is_empty.ensures ∙ c.if-is_empty.true)))

pub loop-e-init : goal.loop-e-init
loop-e-init c =
    let a = c.args in
    let due_all = ap due c.into_iter-e-iterator.ensures.into_iter_gives ∙ c.of-e-items.ensures.all in
    rw (due_all, c.new-s.ensures) (sieve_start (fitting a.at a.part.now) (records a.table.now) a.set (records_few a.table.now))

pub pass-s-requires : goal.pass-s-requires
pass-s-requires c =
    let a = c.args in
    rw c.agrees.ensures
    (sieve_fits (rw c.in-Some.ensures.steps at c.loop-e.invariant) (sieved_lt (fitting a.at a.part.now) (records a.table.now) a.set))

pub loop-e-preserved : goal.loop-e-preserved
loop-e-preserved c = rw (c.pass-s.ensures, c.agrees.ensures) (sieve_turn (rw c.in-Some.ensures.steps at c.loop-e.invariant))

pub returns : goal.returns
returns c =
    let a = c.args in
    let some = eqb-false _ _ (sym c.is_empty.ensures ∙ c.if-is_empty.false) in
    sieved_set (fitting a.at a.part.now) (records a.table.now) a.set (sieve_end c.loop-e.invariant c.in-None.ensures.steps.0)
    ∙ sym (narrowed_sieved (records a.table.now) a.at a.part.now (set_of a.set) (omega arith))
