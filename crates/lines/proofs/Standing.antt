-- Where things stand, as numbers.
--   second_place   the table in `still`, and the client's slice in `lent`
--   third_place    the copy of what was lent, in `still`
use Prim.Native.Nat.{ℕ}
use mathlib.Core.Path.{◌≡◌, refl}
use Rattle.lines.specs.declared.places.TheConstants.{SECOND, THIRD}

pub second_place : ◌≡◌ {A = ℕ} SECOND 262144
second_place = refl

pub third_place : ◌≡◌ {A = ℕ} THIRD 524288
third_place = refl
