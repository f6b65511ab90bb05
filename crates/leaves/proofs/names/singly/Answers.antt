use mathlib.Core.Path.{◌∙◌}
use native.Mathlib.Omega.{arith}
use lib.ListN.{drop_of_length-le}
use Rattle.wire.specs.Lookup.{set_of}
use Rattle.wire.specs.Table.{records}
use Rattle.leaves.specs.Names.{found}
use Rattle.leaves.proofs.Sets.{narrowed_turn}
use Rattle.leaves.proofs.names.singly.Goals as goal

pub loop-i-init : goal.loop-i-init
loop-i-init c = rw c.started-set.ensures

pub loop-i-preserved : goal.loop-i-preserved
loop-i-preserved c =
    let a = c.args in
    let l = c.loop-i in
    narrowed_turn (records a.t.now) a.name.now l.i (set_of l.set) (omega arith) c.narrowed-set.ensures ∙ l.invariant

pub returns : goal.returns
unfolding found
returns c =
    let l = c.loop-i in
    let name = c.args.name.now in
    rw (c.lowest.ensures, ← l.invariant, drop_of_length-le name {i = l.i} (omega arith))
