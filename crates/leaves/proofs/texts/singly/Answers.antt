use native.Mathlib.Numerals.{add-one}
use native.Mathlib.Omega.{arith}
use lib.ListN.{drop_of_length-le}
use lib.Seq.{drop-cons}
use Rattle.leaves.proofs.texts.singly.Goals as goal

pub loop-b-preserved : goal.loop-b-preserved
loop-b-preserved c =
    let l = c.loop-b in
    let v = c.args.v.now in
    rw (add-one l.b-index, c.next-u.ensures) (rw (drop-cons v l.b-index 0 (omega arith)) at l.invariant)

pub returns : goal.returns
returns c =
    let l = c.loop-b in
    let v = c.args.v.now in
    rw (← c.new-u.ensures, ← l.invariant, drop_of_length-le v {i = l.b-index} (omega arith))
