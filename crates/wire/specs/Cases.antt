-- A list of cases, as one claim.
--   Case, is   what was found, and what is expected
--   same       whether each case found the bytes that it expected
use Rattle.std.specs.Prelude.{ℕ, Bool, true, List, [], ◌∷◌}
use Rattle.machine.specs.Choice.{both}
use Rattle.wire.specs.Fields.{same_bytes}

pub record Case : Type 0 where
  pub found : List ℕ
  pub expected : List ℕ

abbrev pub is : List ℕ → List ℕ → Case
is found expected = record { found = found; expected = expected }

abbrev pub same : List Case → Bool
same [] = true
same (c ∷ cs) = both (same_bytes c.found c.expected) (same cs)
