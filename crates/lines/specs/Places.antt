-- Where what is lent stands.
--   of_lent x y k   x for the image, and y for the client's slice
use Rattle.lines.specs.declared.places.Lent.{Lent}
use Rattle.lines.specs.declared.places.Lent.TheVariants.{Image, Slice}

abbrev pub of_lent : {A : Type 0} → A → A → Lent → A
of_lent x y Image = x
of_lent x y Slice = y
