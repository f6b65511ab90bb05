-- What a lookup finds.
--   found rs name     the export of that name
--   changed rs ss     the name "ab" is begun, and its "a" taken, under the records rs; its "b" is taken under ss
use Rattle.std.specs.Prelude.{ℕ, List, [], ◌∷◌, length, Option}
use Rattle.wire.specs.Table.{Record}
use Rattle.wire.specs.Lookup.{started, narrowed_by, chosen}

unfoldable pub found : List Record → List ℕ → Option ℕ
found rs name = chosen (narrowed_by rs 0 name (started rs (length name)))

unfoldable pub changed : List Record → List Record → Option ℕ
changed rs ss = chosen (narrowed_by ss 1 (0x62 ∷ []) (narrowed_by rs 0 (0x61 ∷ []) (started rs 2)))
