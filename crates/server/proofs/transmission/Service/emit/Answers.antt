-- A reply and data are given by their leaves, data from the window's part of the image; the other phases owe nothing.
use Prim.Native.Nat.{◌+◌, ◌-◌}
use mathlib.Core.Path.{◌≡◌}
use native.Mathlib.Omega.{arith}
use Rattle.machine.proofs.Leaves.{emits_idle}
use Rattle.server.proofs.Window.{send_leaf}
use Rattle.server.proofs.Bounds.{some_within}
use Rattle.server.proofs.Idle.{serving_owes}
use Rattle.server.proofs.transmission.Service.emit.Goals as goal

pub returns-in-Replying : goal.returns-in-Replying
returns-in-Replying c = λ t. rw c.in-Replying.is (c.reply.ensures t _)

pub returns-in-Sending : goal.returns-in-Sending
returns-in-Sending c =
    let e = c.args.self.export in
    let d = c.in-Sending.part in
    let b = some_within d.off d.left e.size (rw c.in-Sending.is at c.requires.0) in
    let k : (e.start + e.size) - e.start ≡ e.size = omega arith in
    λ t. rw c.in-Sending.is (send_leaf t e d.off d.left c.args.image.now c.requires.1 b.0 b.1 (rw k at c.send.ensures))

pub returns-in_default : goal.returns-in_default
returns-in_default c =
    let a = c.args in
    let d = c.in_default in
    λ t. rw (c.none.ensures, c.at.ensures) (emits_idle (serving_owes t a.image.now a.self.head a.self.export a.p d.not-Replying d.not-Sending))
