use mathlib.Core.Path.{sym, ap, ◌∙◌}
use Rattle.wire.specs.Table.{records}
use Rattle.wire.specs.Walk.{due}
use Rattle.wire.proofs.Walks.{records_few}
use Rattle.wire.proofs.Sieves.{sieved_lt, sieved_set, started_sieved, sieve_start, sieve_turn, sieve_fits, sieve_end}
use Rattle.wire.proofs.lookup.started.Invariants.{long}
use Rattle.wire.proofs.lookup.started.Goals as goal

pub loop-e-init : goal.loop-e-init
loop-e-init c =
    let a = c.args in
    let due_all = ap due c.into_iter-e-iterator.ensures.into_iter_gives ∙ c.of-e-items.ensures.all in
    rw (due_all, c.new-s.ensures) (sieve_start (long a.len) (records a.table.now) 0xFFFFFFFF (records_few a.table.now))

pub pass-s-requires : goal.pass-s-requires
pass-s-requires c =
    let a = c.args in
    sieve_fits (rw c.in-Some.ensures.steps at c.loop-e.invariant) (sieved_lt (long a.len) (records a.table.now) 0xFFFFFFFF)

pub loop-e-preserved : goal.loop-e-preserved
loop-e-preserved c = rw c.pass-s.ensures (sieve_turn (rw c.in-Some.ensures.steps at c.loop-e.invariant))

pub returns : goal.returns
returns c =
    let a = c.args in
    sieved_set (long a.len) (records a.table.now) 0xFFFFFFFF (sieve_end c.loop-e.invariant c.in-None.ensures.steps.0)
    ∙ sym (started_sieved (records a.table.now) a.len)
