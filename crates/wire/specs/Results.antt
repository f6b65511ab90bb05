-- A call's result.
--   Result   01's number, if it has one, its values, and what its buffer holds afterwards
use Rattle.std.specs.Prelude.{ℕ, List, Option}

-- "a call that succeeds answers without a number"
pub record Result : Type 0 where
  pub number : Option ℕ
  pub values : List ℕ
  pub buffer : List ℕ
