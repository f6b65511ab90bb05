-- The set as a number, and the lowest one of it.
--   word_lt         a word is below 2 to the number of its digits
--   bits_word       the digits of a word are those that it is made of
--   word_bits       a number is the word of its digits
--   length_bits     as many digits as asked for
--   one_number      a set has one number of 32 bits
--   chosen_bits     the number of the trailing zeros is the lowest one of the set, unless the set is empty
--   chosen_none     an empty set chooses nothing
use Prim.Native.Nat.{ℕ, zero, suc, ◌+◌, ◌*◌, ◌/◌, ◌%◌, ◌^◌, ◌<◌}
use mathlib.Core.Path.{◌≡◌, refl, sym, ap, ◌∙◌}
use mathlib.Core.Bool.{Bool, true, false}
use mathlib.Core.List.{List, [], ◌∷◌}
use Rattle.std.specs.Prelude.{None, Some}
use native.Mathlib.Omega.{arith}
use native.Mathlib.Nat.{pow-suc}
use lib.ListN.{length}
use lib.Dec.{eqb}
use lib.Count.{count_trailing_zeros, under}
use borrow.Author.Tests.{eq-eqb, ne_eqb}
use Rattle.wire.specs.Lookup.{digit, word, bits, set_of, chosen, later}

pub word_lt : (xs : List Bool) → word xs < 2 ^ length xs
word_lt [] = omega arith
word_lt (true ∷ xs) = let h = word_lt xs in rw (pow-suc 2 (length xs)) (omega arith)
word_lt (false ∷ xs) = let h = word_lt xs in rw (pow-suc 2 (length xs)) (omega arith)

low : (x : Bool) (w : ℕ) → eqb ((digit x + 2 * w) % 2) 1 ≡ x
low true w = eq-eqb ((1 + 2 * w) % 2) 1 (omega arith)
low false w = ne_eqb ((0 + 2 * w) % 2) 1 (omega arith)

high : (x : Bool) (w : ℕ) → (digit x + 2 * w) / 2 ≡ w
high true w = omega arith
high false w = omega arith

pub bits_word : (xs : List Bool) (k : ℕ) → length xs ≡ k → bits k (word xs) ≡ xs
unfolding bits
bits_word [] zero e = refl
bits_word [] (suc k) e = absurd (omega arith)
bits_word (x ∷ xs) zero e = absurd (omega arith)
bits_word (x ∷ xs) (suc k) e = rw (low x (word xs), high x (word xs), bits_word xs k (omega arith))

digit_low : (w : ℕ) → digit (eqb (w % 2) 1) ≡ w % 2
digit_low w = go (w % 2) (omega arith)
  where
    go : (d : ℕ) → d < 2 → digit (eqb d 1) ≡ d
    go zero h = refl
    go (suc zero) h = refl
    go (suc (suc d)) h = absurd (omega arith)

pub word_bits : (k w : ℕ) → w < 2 ^ k → word (bits k w) ≡ w
unfolding bits
word_bits zero w h = omega arith
word_bits (suc k) w h =
    let l : w < 2 ^ k * 2 = rw pow-suc at h in
    rw (digit_low w, word_bits k (w / 2) (omega arith)) (omega arith)

pub length_bits : (k w : ℕ) → length (bits k w) ≡ k
unfolding bits
length_bits zero w = refl
length_bits (suc k) w = ap suc (length_bits k (w / 2))

pub one_number : {a b : ℕ} → a < 2 ^ 32 → b < 2 ^ 32 → set_of a ≡ set_of b → a ≡ b
one_number {a} {b} h k e = sym (word_bits 32 a h) ∙ ap word e ∙ word_bits 32 b k

pub chosen_bits : (k w : ℕ) → w < 2 ^ k → (w ≡ 0 → ⊥) → chosen (bits k w) ≡ Some (count_trailing_zeros k w)
unfolding count_trailing_zeros bits
chosen_bits zero w h n = absurd (n (omega arith))
chosen_bits (suc k) w h n =
    let l : w < 2 ^ k * 2 = rw pow-suc at h in
    go (w % 2) refl (omega arith) (λ z. chosen_bits k (w / 2) (omega arith) (λ y. n (omega arith)))
  where
    go : (d : ℕ) → w % 2 ≡ d → d < 2 → (d ≡ 0 → chosen (bits k (w / 2)) ≡ Some (count_trailing_zeros k (w / 2)))
        → chosen (eqb d 1 ∷ bits k (w / 2)) ≡ Some (under d (count_trailing_zeros k (w / 2)))
    go zero e b rest = ap later (rest refl)
    go (suc zero) e b rest = refl
    go (suc (suc d)) e b rest = absurd (omega arith)

pub chosen_none : (k : ℕ) → chosen (bits k 0) ≡ None
unfolding bits
chosen_none zero = refl
chosen_none (suc k) = ap later (chosen_none k)
