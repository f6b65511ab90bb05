-- The part of dst that was lent on comes back as the part of src, and the rest of dst was not lent.
use Prim.Native.Nat.{ℕ, ◌+◌, ◌-◌}
use mathlib.Core.Path.{◌≡◌, sym}
use mathlib.Core.List.{List, append_assoc}
use native.Mathlib.Omega.{arith}
use lib.ListN.{take, drop}
use lib.Seq.{paste}
use borrow.Rule.Slice.PartMut.{put_mid, Post-is}
use Rattle.machine.proofs.copy.copy_part.Goals as goal

-- the part put back is the part pasted
put-paste : (d s : List ℕ) (at from n : ℕ) (ys : List ℕ) → ys ≡ take (from + n - from) (drop from s)
    → put_mid at (at + n - at) d ys ≡ paste d at (drop from s) n
put-paste d s at from n ys e =
    let f : from + n - from ≡ n = omega arith in
    let k : at + n - at ≡ n = omega arith in
    rw (e, Post-is at (at + n) d (omega arith), f) (sym (append_assoc (take at d) (take n (drop from s)) (drop (at + n) d)))

pub returns : goal.returns
returns c =
    let a = c.args in
    put-paste a.dst.now a.src.now a.at a.from a.n _ c.copy_from_slice.ensures.after
