-- The test of a range.
--   between_in, between_out   its value for a number in the range, and for any other
--   between_cases             what holds of the thing that it picks, by cases on which of the two it is
use Prim.Native.Nat.{ℕ}
use mathlib.Core.Path.{◌≡◌, refl}
use mathlib.Core.Bool.{Bool, true, false}
use mathlib.Core.Logic.Dec
use native.Mathlib.Decide.{dec_le}
use lib.Dec.{leb}
use borrow.Author.Tests.{le-leb, leb-true}
use Rattle.machine.specs.Choice.{pick, both, between}
use Rattle.wire.specs.Grammar.{In}

pub between_in : {lo hi b : ℕ} → In lo hi b → between lo hi b ≡ true
between_in {lo} {hi} {b} h = rw (le-leb lo b h.0, le-leb b hi h.1)

pub between_out : (lo hi b : ℕ) → (In lo hi b → ⊥) → between lo hi b ≡ false
between_out lo hi b n = go (leb lo b) refl (leb b hi) refl
  where
    go : (s : Bool) → leb lo b ≡ s → (t : Bool) → leb b hi ≡ t → both s t ≡ false
    go true h true k = absurd (n (leb-true lo b h, leb-true b hi k))
    go true h false k = refl
    go false h t k = refl

pub between_cases : {A C : Type 0} (P : A → Type 0) (lo hi b : ℕ) {x y : A}
    → (In lo hi b → P x → C)
    → ((In lo hi b → ⊥) → P y → C)
    → P (pick (between lo hi b) x y)
    → C
between_cases {C = C} P lo hi b f g p = go (Dec.and (dec_le lo b) (dec_le b hi))
  where
    go : Dec (In lo hi b) → C
    go (yes h) = f h (rw (between_in h) at p)
    go (no n) = g n (rw (between_out lo hi b n) at p)
