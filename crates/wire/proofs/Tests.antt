-- Laws of tests.
--   both_true, both_left, both_right   `both` is true exactly where its two tests are
--   leb_same   two orders that imply each other have the same test
use Prim.Native.Nat.{ℕ, ◌≤◌}
use mathlib.Core.Path.{◌≡◌, refl}
use mathlib.Core.Bool.{Bool, true, false}
use native.Mathlib.Omega.{arith}
use lib.Dec.{leb}
use borrow.Author.Tests.{leb-true, leb-false}
use Rattle.machine.specs.Choice.{both}

pub both_true : {a b : Bool} → a ≡ true → b ≡ true → both a b ≡ true
both_true p q = rw (p, q)

pub both_left : (a b : Bool) → both a b ≡ true → a ≡ true
both_left true b e = refl
both_left false b e = e

pub both_right : (a b : Bool) → both a b ≡ true → b ≡ true
both_right true b e = e
both_right false b e = let z : ◌≡◌ {A = ℕ} 0 1 = cc in absurd (omega arith)

pub leb_same : (a b c d : ℕ) → (a ≤ b → c ≤ d) → (c ≤ d → a ≤ b) → leb a b ≡ leb c d
leb_same a b c d to from = go (leb a b) (leb c d) refl refl
  where
    go : (s t : Bool) → leb a b ≡ s → leb c d ≡ t → s ≡ t
    go true true p q = refl
    go true false p q = absurd (omega (arith, to (leb-true a b p), leb-false c d q))
    go false true p q = absurd (omega (arith, from (leb-true c d q), leb-false a b p))
    go false false p q = refl
