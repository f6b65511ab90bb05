-- Parts of what is lent.
--   owing l left      the byte of a list that comes next where so many are left
--   less n            one less
--   blank l           whether all bytes are 0
--   placed l from bs  the list with these bytes from a place on, and all others as they were
use Rattle.std.specs.Prelude.{ℕ, zero, suc, ◌+◌, ◌-◌, Bool, true, List, [], ◌∷◌, ◌++◌, eqb, length, get_or, take, drop}
use Rattle.machine.specs.Choice.{both}

abbrev pub owing : List ℕ → ℕ → ℕ
owing l left = get_or l (length l - left) 0

abbrev pub less : ℕ → ℕ
less zero = zero
less (suc n) = n

abbrev pub blank : List ℕ → Bool
blank [] = true
blank (b ∷ l) = both (eqb b 0) (blank l)

abbrev pub placed : List ℕ → ℕ → List ℕ → List ℕ
placed l from bs = take from l ++ bs ++ drop (from + length bs) l
