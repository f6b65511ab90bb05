-- The piece, the room and what is left on the wires are those of a move, and the step is the client's own.
use Prim.Native.Nat.{◌+◌, ◌-◌, ◌^◌, ◌≤◌, ◌<◌}
use mathlib.Core.Path.{sym}
use native.Mathlib.Omega.{arith}
use lib.ListN.{length, take, drop, length-take}
use lib.Seq.{length-take-le}
use Rattle.client.proofs.Result.{within}
use Rattle.joined.proofs.Wired.{client_moved}
use Rattle.joined.proofs.client_move.Goals as goal

pub slice_bounds-step-end-2 : goal.slice_bounds-step-end-2
slice_bounds-step-end-2 c = sym (length-take-le c.min-n.result c.args.down.now (omega (arith, c.min-n.ensures, c.min-there.ensures)))

pub take_off-requires : goal.take_off-requires
take_off-requires c =
    let w = within c.step-step.ensures in
    let l = length-take c.min-n.result c.args.down.now in
    (omega (arith, w.0, l, c.min-n.ensures), omega (arith, c.min-there.ensures))

pub overflow_add-ups : goal.overflow_add-ups
overflow_add-ups c =
    let up = c.args.up.now in
    let from = c.min-from.result in
    let more = c.min.result in
    let w : c.step-step.result.given ≤ length (take (from + more - from) (drop from up)) = (within c.step-step.ensures).1 in
    let k : from + c.step-step.result.given ≤ from + more = omega (arith, w, length-take (from + more - from) (drop from up)) in
    let f : from + more < 2 ^ 64 = omega arith in
    record { fits = omega (arith, k, f) }

pub overflow_sub-downs : goal.overflow_sub-downs
overflow_sub-downs c =
    let w = within c.step-step.ensures in
    let l = length-take c.min-n.result c.args.down.now in
    omega (arith, w.0, l, c.min-n.ensures)

pub returns : goal.returns
returns c =
    let a = c.args in
    let m = client_moved {up = a.up.now} {room = a.o.room} c.min-from.ensures (rw c.min.ensures) c.min-there.ensures c.min-n.ensures c.step-step.ensures in
    rw c.take_off.ensures m
