-- Tests of the ranges, as the code makes them.
--   head_short   how many bytes of the array are there
use Prim.Native.Nat.{ℕ, min, ◌≤◌}
use mathlib.Core.Path.{◌≡◌, refl, sym, ◌∙◌}
use mathlib.Core.Bool.{Bool, true, false}
use mathlib.Core.List.{List}
use native.Mathlib.Omega.{arith}
use borrow.Author.Tests.{lt-ltb, le-ltb, ltb-true, ltb-false}
use lib.Dec.{ltb}
use lib.ListN.{length, take, length-take}

pub head_short : (h : List ℕ) (have k : ℕ) → length h ≡ 28 → k ≤ 28 → ltb have k ≡ ltb (length (take have h)) k
head_short h have k long fits = go (ltb have k) refl
  where
    l : length (take have h) ≡ min have (length h)
    l = length-take have h

    go : (b : Bool) → ltb have k ≡ b → ltb have k ≡ ltb (length (take have h)) k
    go true e = e ∙ sym (lt-ltb (length (take have h)) k (omega (arith, ltb-true have k e, length-take have h)))
    go false e = e ∙ sym (le-ltb (length (take have h)) k (omega (arith, ltb-false have k e, length-take have h)))
