-- Each phase's leaf moves the machine; the window is lent on, and comes back into its place in the image.
use Prim.Native.Nat.{◌+◌, ◌-◌}
use mathlib.Core.Path.{◌≡◌, refl}
use native.Mathlib.Omega.{arith}
use Rattle.machine.proofs.Leaves.{absorbs_idle}
use Rattle.server.proofs.Window.{store_leaf}
use Rattle.server.proofs.Bounds.{storing_bounds}
use Rattle.server.proofs.Idle.{serving_wants}
use Rattle.server.proofs.transmission.Service.absorb.Goals as goal

pub returns-in-Header : goal.returns-in-Header
returns-in-Header c = λ t. rw c.in-Header.is (c.take_header.ensures t _)

pub returns-in-Storing : goal.returns-in-Storing
returns-in-Storing c =
    let e = c.args.self.export in
    let p = c.in-Storing.payload in
    let b = storing_bounds e p.off p.left (rw c.in-Storing.is at c.requires.1) in
    let k : (e.start + e.size) - e.start ≡ e.size = omega arith in
    λ t. rw c.in-Storing.is (store_leaf t e p.off p.left c.args.image.now c.requires.2 b.0 b.1 _ (rw k at c.store.ensures) refl)

pub returns-in-Dropping : goal.returns-in-Dropping
returns-in-Dropping c = λ t. rw c.in-Dropping.is (c.discard.ensures t _ _ refl)

pub returns-in_default : goal.returns-in_default
returns-in_default c =
    let a = c.args in
    let d = c.in_default in
    λ t. rw (c.none.ensures, c.at.ensures) (absorbs_idle (serving_wants t a.image.now a.self.head a.self.export a.p d.not-Header d.not-Storing d.not-Dropping))
