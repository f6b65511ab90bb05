-- Laws of a sum with a signed number.
--   up_outside, up_sum      the sum where the number is not negative
--   lowest_outside          where it is the lowest
--   down_outside, down_sum  where it is another negative one
--   up_some, down_some, down_none   `added`, by the library's sum, by its difference, and where there is no negation
use Rattle.std.specs.Prelude.{◌≡◌, ℕ, suc, ◌+◌, ◌-◌, ◌^◌, ◌≤◌, ◌<◌, true, false, ℤ, pos, negsuc, Option, None, Some}
use Rattle.std.specs.Option.{SomeIff}
use mathlib.Core.Path.{sym}
use native.Mathlib.Omega.{arith}
use lib.IntN.{nat_abs, neg_ℤ}
use lib.Signed.{le_z}
use mir.Syntax.{w64}
use mir.Val.{SFits}
use borrow.Author.Tests.{lt-ltb, le-ltb, le-leb, lt-leb, leb-false, eq-eqb, ne_eqb}
use Rattle.wire.specs.Numbers.{added}

module _ (p : ℕ) where
  pub up_outside : (n : ℕ) → 2 ^ 64 ≤ p + n → added p (pos n) ≡ None
  unfolding added
  up_outside n h = rw le-ltb

  pub up_sum : (n : ℕ) → p + n < 2 ^ 64 → added p (pos n) ≡ Some (p + n)
  unfolding added
  up_sum n h = rw lt-ltb

  pub lowest_outside : (n : ℕ) → suc n ≡ 2 ^ 63 → added p (negsuc n) ≡ None
  unfolding added
  lowest_outside n e = rw eq-eqb

  pub down_outside : (n : ℕ) → (suc n ≡ 2 ^ 63 → ⊥) → p < suc n → added p (negsuc n) ≡ None
  unfolding added
  down_outside n d h = rw (ne_eqb, lt-leb)

  pub down_sum : (n : ℕ) → (suc n ≡ 2 ^ 63 → ⊥) → suc n ≤ p → added p (negsuc n) ≡ Some (p - suc n)
  unfolding added
  down_sum n d h = rw (ne_eqb, le-leb)

  -- ---- by the library's sum and difference
  sum_some : (n : ℕ) (r : Option ℕ) → SomeIff r (p + n < 2 ^ 64) (p + n) → r ≡ added p (pos n)
  sum_some n None s = sym (up_outside n (let far : p + n < 2 ^ 64 → ⊥ = s in omega arith))
  sum_some n (Some x) s = rw s.1 (sym (up_sum n s.0))

  difference_some : (n : ℕ) → (suc n ≡ 2 ^ 63 → ⊥) → (r : Option ℕ) → SomeIff r (suc n ≤ p) (p - suc n) → r ≡ added p (negsuc n)
  difference_some n d None s = sym (down_outside n d (let far : suc n ≤ p → ⊥ = s in omega arith))
  difference_some n d (Some x) s = rw s.1 (sym (down_sum n d s.0))

  pub up_some : (z : ℤ) → le_z (pos 0) z ≡ true → (r : Option ℕ) → SomeIff r (p + nat_abs z < 2 ^ 64) (p + nat_abs z) → r ≡ added p z
  up_some (pos n) e r s = sum_some n r s
  up_some (negsuc n) e r s = absurd (let z : ◌≡◌ {A = ℕ} 0 1 = cc in omega arith)

  pub down_some : (z : ℤ) → le_z (pos 0) z ≡ false → SFits w64 (neg_ℤ z) → (r : Option ℕ) → SomeIff r (nat_abs (neg_ℤ z) ≤ p) (p - nat_abs (neg_ℤ z)) → r ≡ added p z
  down_some (pos n) e f r s = absurd (omega (arith, leb-false 0 n e))
  down_some (negsuc n) e f r s = difference_some n (λ e. let h = f.sfits in omega arith) r s

  pub down_none : (z : ℤ) → SFits w64 z → le_z (pos 0) z ≡ false → (SFits w64 (neg_ℤ z) → ⊥) → None ≡ added p z
  down_none (pos n) f e h = absurd (omega (arith, leb-false 0 n e))
  down_none (negsuc n) f e h = sym (lowest_outside n (let g = f.sfits in let far : suc n < 2 ^ 63 → ⊥ = (λ l. h (record { sfits = l })) in omega arith))
