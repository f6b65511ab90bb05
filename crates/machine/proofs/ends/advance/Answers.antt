use native.Mathlib.Omega.{arith}
use Rattle.machine.proofs.Glue.{start, looped, ended, lasting}
use Rattle.machine.proofs.ends.advance.Goals as goal

pub loop-init : goal.loop-init
loop-init g c = start

pub turn-r-requires : goal.turn-r-requires
turn-r-requires g c = lasting (g.E.End.Good c.args.still.now) c.requires c.loop.invariant.moves

pub overflow_add-r : goal.overflow_add-r
overflow_add-r g c =
    let s = looped c.loop.invariant c.turn-r.ensures in
    let k = c.well_formed in
    omega (arith, s.within_input, s.within_room)

pub loop-smaller : goal.loop-smaller
loop-smaller g c =
    let s = looped c.loop.invariant c.turn-r.ensures in
    omega (arith, s.within_input, s.within_room, c.if-r-eq0.false)

pub loop-preserved : goal.loop-preserved
loop-preserved g c = looped c.loop.invariant c.turn-r.ensures

pub shape_of-room : goal.shape_of-room
shape_of-room g c = (looped c.loop.invariant c.turn-r.ensures).whole

pub shape_of-lent : goal.shape_of-lent
shape_of-lent g c = (c.requires _ _ _ _ (looped c.loop.invariant c.turn-r.ensures).moves).1

pub returns : goal.returns
returns g c = ended c.loop.invariant c.turn-r.ensures c.if-r-eq0.true
