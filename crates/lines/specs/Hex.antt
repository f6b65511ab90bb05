-- Bytes in hex.
--   hex_of bs   two lowercase digits for each byte
use Rattle.std.specs.Prelude.{ℕ, ◌/◌, ◌%◌, List, [], ◌∷◌}
use Rattle.io.specs.Digits.{hex_digit_ascii}

unfoldable pub hex_of : List ℕ → List ℕ
hex_of [] = []
hex_of (b ∷ bs) = hex_digit_ascii (b / 16) ∷ hex_digit_ascii (b % 16) ∷ hex_of bs
