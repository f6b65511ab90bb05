-- What is left of a line.
--   Behind line rest   the line ends with these bytes
--   ends line          whether nothing but a comment is left: no byte, or # in front
use Rattle.std.specs.Prelude.{◌≡◌, ℕ, List, [], ◌∷◌, ◌++◌, Bool, true, eqb}

abbrev pub Behind : List ℕ → List ℕ → Type 0
Behind line rest = (front : List ℕ) × (front ++ rest ≡ line)

abbrev pub ends : List ℕ → Bool
ends [] = true
ends (b ∷ line) = eqb b 35
