-- The set of exports that a name narrows byte by byte.
--   narrowed_turn   a byte more of a name
use Prim.Native.Nat.{ℕ, ◌+◌, ◌<◌}
use mathlib.Core.Path.{◌≡◌}
use mathlib.Core.Bool.{Bool}
use mathlib.Core.List.{List, [], ◌∷◌}
use native.Mathlib.Numerals.{add-one}
use lib.ListN.{length, get_or, drop}
use lib.Seq.{drop-cons}
use Rattle.wire.specs.Table.{Record}
use Rattle.wire.specs.Lookup.{narrowed_by}

pub narrowed_turn : (rs : List Record) (name : List ℕ) (i : ℕ) (set : List Bool) {after : List Bool} → i < length name
    → after ≡ narrowed_by rs i (get_or name i 0 ∷ []) set
    → narrowed_by rs (i + 1) (drop (i + 1) name) after ≡ narrowed_by rs i (drop i name) set
narrowed_turn rs name i set h e = rw (e, add-one i, drop-cons name i 0 h)
