-- Bytes that are all 0.
--   blank_all                           each is
--   rest_from                           the bytes from a place on, or none
--   blank_zeros                         zeros are
--   blank_fold                          byte by byte, as the filler is judged
use Prim.Native.Nat.{ℕ, zero, suc, min, ◌-◌}
use mathlib.Core.Path.{◌≡◌, refl, sym, ◌∙◌}
use mathlib.Core.Bool.{Bool, true, false, ◌&&◌}
use mathlib.Core.List.{List, [], ◌∷◌, foldl}
use native.Mathlib.Omega.{arith}
use borrow.Author.Tests.{leb-true, leb-false}
use lib.Dec.{eqb, leb}
use lib.ListN.{length, take, drop, drop_of_length-le, replicate}
use Rattle.std.specs.List.{list_all}
use Rattle.machine.proofs.Glue.{tail_whole}
use Rattle.machine.specs.Choice.{both}
use Rattle.machine.specs.Parts.{blank}

-- every byte is 0
pub blank_all : (l : List ℕ) → list_all (λ b. eqb b 0) l ≡ blank l
blank_all [] = refl
blank_all (b ∷ l) = go (eqb b 0) (blank_all l)
  where
    go : {x y : Bool} (t : Bool) → x ≡ y → (t && x) ≡ both t y
    go true e = e
    go false e = refl

pub rest_from : (l : List ℕ) (from k : ℕ) → k ≡ min from (length l) → take (length l - k) (drop k l) ≡ drop from l
rest_from l from k e = tail_whole l k ∙ go (leb from (length l)) refl
  where
    go : (t : Bool) → leb from (length l) ≡ t → drop k l ≡ drop from l
    go true h = let p = leb-true from (length l) h in let q : k ≡ from = omega (arith, e, p) in rw q
    go false h =
        let p = leb-false from (length l) h in
        drop_of_length-le l {i = k} (omega (arith, e, p)) ∙ sym (drop_of_length-le l {i = from} (omega (arith, p)))

pub blank_zeros : (n : ℕ) → blank (replicate n 0) ≡ true
blank_zeros zero = refl
blank_zeros (suc n) = blank_zeros n

pub blank_fold : (clean : Bool) (l : List ℕ) → foldl (λ (v : Bool) b. both v (eqb b 0)) clean l ≡ both clean (blank l)
blank_fold true [] = refl
blank_fold false [] = refl
blank_fold true (b ∷ l) = blank_fold (eqb b 0) l
blank_fold false (b ∷ l) = blank_fold false l
