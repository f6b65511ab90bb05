-- A wire's array.
--   all_off    what stood behind the bytes taken, moved to the front
use Prim.Native.Nat.{ℕ, zero, suc, min, ◌+◌, ◌-◌, ◌≤◌}
use mathlib.Core.Path.{◌≡◌, sym}
use mathlib.Core.List.{List, [], ◌∷◌}
use native.Mathlib.Omega.{arith}
use lib.ListN.{length, take, drop}
use lib.Seq.{paste, take_all}
use Rattle.joined.specs.Wired.{taken_off}

-- a first part without its first n is a first part of what is behind these
pub drop_take : (n count : ℕ) (l : List ℕ) → n ≤ count → drop n (take count l) ≡ take (count - n) (drop n l)
drop_take zero count l h = let e : count - 0 ≡ count = omega arith in rw e
drop_take (suc n) zero l h = absurd (omega arith)
drop_take (suc n) (suc count) [] h = sym (take_all (suc count - suc n) [] (omega arith))
drop_take (suc n) (suc count) (b ∷ l) h = let e : suc count - suc n ≡ count - n = omega arith in rw e (drop_take n count l (omega arith))

pub all_off : (w : List ℕ) (count n : ℕ) → n ≤ count → count ≤ length w → paste w 0 (drop n w) (count - n) ≡ taken_off w count n
all_off w count n h k =
    let e : 0 + (count - n) ≡ count - n = omega arith in
    let m : min count (length w) ≡ count = omega arith in
    rw (e, m, drop_take n count w h)
