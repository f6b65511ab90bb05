use Prim.Native.Nat.{ℕ, ◌≤◌, ◌<◌, ◌+◌, ◌-◌, ◌*◌, ◌/◌, ◌%◌, ◌^◌}
use mathlib.Core.Path.{◌≡◌, ap, ◌∙◌}
use mathlib.Core.List.{List}
use native.Mathlib.Omega.{arith}
use native.Mathlib.Numerals.{add-one}
use lib.ListN.{length, set}
use lib.Seq.{paste, paste-zero, paste-suc, length-paste}
use Rattle.wire.specs.Fields.{be}
use Rattle.wire.proofs.BigEndian.{be_at, shift_bytes, length_be}
use Rattle.wire.proofs.fields.put_number.Goals as goal

-- what is pasted so far leaves the length
same : (d : List ℕ) (at n x i : ℕ) → i ≤ n → at + n ≤ length d → length (paste d at (be n x) i) ≡ length d
same d at n x i h k = length-paste d at (be n x) i (omega arith) (rw length_be h)

-- a turn's store
one_more : (d : List ℕ) (at n x i : ℕ) → i < n → at + n ≤ length d
    → set (paste d at (be n x) i) (at + i) (x / 2 ^ (8 * (n - 1 - i)) % 256) ≡ paste d at (be n x) (i + 1)
one_more d at n x i h k =
    rw (shift_bytes, ← be_at n x i (n - 1 - i) (omega arith), add-one)
    (paste-suc d at (be n x) i 0 (omega arith) (rw length_be h))

pub loop-i-init : goal.loop-i-init
loop-i-init c = paste-zero _ c.args.at (be c.args.n c.args.x)

pub bounds-dst-at : goal.bounds-dst-at
bounds-dst-at c =
    let a = c.args in
    let l = c.loop-i in
    rw (l.invariant, same a.dst.now a.at a.n a.x l.i (omega arith) (omega arith)) (omega arith)

pub loop-i-preserved : goal.loop-i-preserved
loop-i-preserved c =
    let a = c.args in
    let l = c.loop-i in
    rw l.invariant (one_more a.dst.now a.at a.n a.x l.i (omega arith) (omega arith))

pub shape_of-dst : goal.shape_of-dst
shape_of-dst c =
    let a = c.args in
    let l = c.loop-i in
    ap length l.invariant ∙ same a.dst.now a.at a.n a.x l.i (omega arith) (omega arith)

pub returns : goal.returns
returns c =
    let all : c.loop-i.i ≡ c.args.n = omega arith in
    rw all at c.loop-i.invariant
