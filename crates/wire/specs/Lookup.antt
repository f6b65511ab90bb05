-- Lookup by a name that arrives a byte at a time and is never stored: the set of the exports that still fit it, a Bool for each of the 32
-- records that a table may have.
--   started_in k rs len    as `started`, for k records
--   started rs len        "those whose names are that long"
--   has r i b             the record's name has that byte at the place i
--   narrowed rs i b set   the byte b at the place i "clears each that differs there, lacks that byte or has no record in the table"
--   narrowed_by rs i bs set   the bytes bs, from the place i on, one after the other
--   later                 the place one further on, if there is one
--   chosen set            "the lowest one left"
--   digit, word set       a binary digit; the number of a set, whose binary digit k is record k
--   bits k w, set_of w     the set of the lowest k binary digits of w; the set that the code's 32-bit number w stands for
use Rattle.std.specs.Prelude.{ℕ, zero, suc, ◌+◌, ◌*◌, ◌/◌, ◌%◌, Bool, true, false, List, [], ◌∷◌, eqb, ltb, length, get_or, Option, None, Some}
use Rattle.machine.specs.Choice.{both}
use Rattle.wire.specs.Table.{Record}

abbrev pub started_in : ℕ → List Record → ℕ → List Bool
started_in zero rs len = []
started_in (suc k) [] len = false ∷ started_in k [] len
started_in (suc k) (r ∷ rs) len = eqb (length r.name) len ∷ started_in k rs len

unfoldable pub started : List Record → ℕ → List Bool
started rs len = started_in 32 rs len

abbrev pub has : Record → ℕ → ℕ → Bool
has r i b = both (ltb i (length r.name)) (eqb (get_or r.name i 0) b)

abbrev pub narrowed : List Record → ℕ → ℕ → List Bool → List Bool
narrowed rs i b [] = []
narrowed [] i b (x ∷ xs) = false ∷ narrowed [] i b xs
narrowed (r ∷ rs) i b (x ∷ xs) = both x (has r i b) ∷ narrowed rs i b xs

abbrev pub narrowed_by : List Record → ℕ → List ℕ → List Bool → List Bool
narrowed_by rs i [] set = set
narrowed_by rs i (b ∷ bs) set = narrowed_by rs (suc i) bs (narrowed rs i b set)

abbrev pub later : Option ℕ → Option ℕ
later None = None
later (Some k) = Some (suc k)

abbrev pub chosen : List Bool → Option ℕ
chosen [] = None
chosen (true ∷ xs) = Some 0
chosen (false ∷ xs) = later (chosen xs)

-- ---- the set as a number
abbrev pub digit : Bool → ℕ
digit true = 1
digit false = 0

abbrev pub word : List Bool → ℕ
word [] = 0
word (x ∷ xs) = digit x + 2 * word xs

unfoldable pub bits : ℕ → ℕ → List Bool
bits zero w = []
bits (suc k) w = eqb (w % 2) 1 ∷ bits k (w / 2)

abbrev pub set_of : ℕ → List Bool
set_of w = bits 32 w
