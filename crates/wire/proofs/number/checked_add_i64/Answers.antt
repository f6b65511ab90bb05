-- What the machine reads back from the number's bits is the number.
use mathlib.Core.Path.{◌≡◌}
use mathlib.Core.Bool.{Bool}
use lib.IntN.{ℤ, pos, neg_ℤ}
use lib.Signed.{le_z}
use mir.Syntax.{w64}
use mir.Val.{SFits, to_z, of_z}
use mir.ValLaws.{to_z-of_z}
use Rattle.wire.proofs.Numbers.{up_some, down_some, down_none}
use Rattle.wire.proofs.number.checked_add_i64.Goals as goal

read_back : (d : ℤ) → SFits w64 d → {b : Bool} → le_z (pos 0) (to_z w64 (of_z w64 d)) ≡ b → le_z (pos 0) d ≡ b
read_back d fits e = rw (to_z-of_z w64 d fits) at e

pub returns-in_err-down : goal.returns-in_err-down
returns-in_err-down c =
    let a = c.args in
    rw c.from_residual.ensures (down_none a.p a.d c.ranges.d (read_back a.d c.ranges.d c.if-d-ge0.false) (rw (to_z-of_z w64 a.d c.ranges.d) at c.in_err-down.ensures))

pub returns-then-d-ge0 : goal.returns-then-d-ge0
returns-then-d-ge0 c =
    let a = c.args in
    up_some a.p a.d (read_back a.d c.ranges.d c.if-d-ge0.true) c.checked_add.result (rw (to_z-of_z w64 a.d c.ranges.d) at c.checked_add.ensures)

pub returns-in_ok-down : goal.returns-in_ok-down
returns-in_ok-down c =
    let a = c.args in
    let s = rw (to_z-of_z w64 a.d c.ranges.d) at c.in_ok-down.ensures in
    down_some a.p a.d (read_back a.d c.ranges.d c.if-d-ge0.false) s.0 c.checked_sub.result (rw (s.1, to_z-of_z w64 (neg_ℤ a.d) s.0) at c.checked_sub.ensures)
