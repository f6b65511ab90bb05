-- Bytes in hex.
--   length_hex   two digits for each byte
--   hex_high     at an even place, the digit of the byte's high half
--   hex_low      behind it, that of the low half
use Prim.Native.Nat.{ℕ, zero, suc, ◌+◌, ◌*◌, ◌/◌, ◌%◌, ◌<◌}
use mathlib.Core.Path.{◌≡◌, refl}
use mathlib.Core.List.{List, [], ◌∷◌}
use native.Mathlib.Omega.{arith}
use native.Mathlib.Nat.{not-suc-le-zero, le_of_suc-le-suc}
use lib.ListN.{length, get_or}
use Rattle.io.specs.Digits.{hex_digit_ascii}
use Rattle.lines.specs.Hex.{hex_of}

pub length_hex : (bs : List ℕ) → length (hex_of bs) ≡ 2 * length bs
unfolding hex_of
length_hex [] = refl
length_hex (b ∷ bs) = let h = length_hex bs in omega arith

pub hex_high : (bs : List ℕ) (i j : ℕ) → j ≡ 2 * i → i < length bs → get_or (hex_of bs) j 0 ≡ hex_digit_ascii (get_or bs i 0 / 16)
unfolding hex_of
hex_high [] i j e h = absurd (not-suc-le-zero h)
hex_high (b ∷ bs) zero zero e h = refl
hex_high (b ∷ bs) zero (suc j) e h = absurd (omega arith)
hex_high (b ∷ bs) (suc i) zero e h = absurd (omega arith)
hex_high (b ∷ bs) (suc i) (suc zero) e h = absurd (omega arith)
hex_high (b ∷ bs) (suc i) (suc (suc j)) e h = hex_high bs i j (omega arith) (le_of_suc-le-suc h)

pub hex_low : (bs : List ℕ) (i j : ℕ) → j ≡ 2 * i + 1 → i < length bs → get_or (hex_of bs) j 0 ≡ hex_digit_ascii (get_or bs i 0 % 16)
unfolding hex_of
hex_low [] i j e h = absurd (not-suc-le-zero h)
hex_low (b ∷ bs) zero zero e h = absurd (omega arith)
hex_low (b ∷ bs) zero (suc zero) e h = refl
hex_low (b ∷ bs) zero (suc (suc j)) e h = absurd (omega arith)
hex_low (b ∷ bs) (suc i) zero e h = absurd (omega arith)
hex_low (b ∷ bs) (suc i) (suc zero) e h = absurd (omega arith)
hex_low (b ∷ bs) (suc i) (suc (suc j)) e h = hex_low bs i j (omega arith) (le_of_suc-le-suc h)
