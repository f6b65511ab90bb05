-- Two answers that a public function's contract allows are the same answer.
--   same_chosen    of `lowest`
--   same_sum       of `checked_add_i64`
--   same_checked   of `check`
--   same_front     of `front`: what it holds of the table is the same bytes
--   same_walk      of `Records::of`, likewise
-- Of `started` and `narrowed` it is `one_number` of Words.antt; the other public functions answer an equation.
use Prim.Native.Nat.{ℕ}
use mathlib.Core.Path.{◌≡◌, refl, sym, ap, ◌∙◌}
use mathlib.Core.List.{List}
use Rattle.std.specs.Prelude.{ℤ, Option, Result, Ok, Err, ⊤}
use Rattle.std.specs.Borrow.{Bor}
use lib.Dec.{eqb}
use Rattle.machine.specs.Choice.{pick}
use Rattle.wire.specs.Numbers.{added}
use Rattle.wire.specs.Table.{fault_of, front}
use Rattle.wire.specs.Lookup.{chosen, set_of}
use Rattle.wire.specs.Walk.{front_of, Begun}
use Rattle.wire.specs.declared.records.Entry.{Entry}
use Rattle.wire.specs.declared.records.Broken.{Broken}
use Rattle.wire.specs.declared.records.Records.{Records}
use Rattle.wire.specs.declared.table.Fault.{Fault}
use Rattle.wire.specs.declared.table.Fault.TheVariants.{Version, Length, Count, Window, Flags, Name}

pub same_chosen : (set : ℕ) (a b : Option ℕ) → a ≡ chosen (set_of set) → b ≡ chosen (set_of set) → a ≡ b
same_chosen set a b e f = e ∙ sym f

pub same_sum : (p : ℕ) (d : ℤ) (a b : Option ℕ) → a ≡ added p d → b ≡ added p d → a ≡ b
same_sum p d a b e f = e ∙ sym f

-- the answer of a number
answer_of : ℕ → Result ⊤ Fault
answer_of n =
    pick (eqb n 20) (Err Version)
    (pick (eqb n 21) (Err Length)
    (pick (eqb n 22) (Err Count) (pick (eqb n 23) (Err Window) (pick (eqb n 24) (Err Flags) (pick (eqb n 25) (Err Name) (Ok tt))))))

answered : (c : Result ⊤ Fault) → answer_of (fault_of c) ≡ c
unfolding answer_of
answered (Ok sound) = refl
answered (Err Version) = refl
answered (Err Length) = refl
answered (Err Count) = refl
answered (Err Window) = refl
answered (Err Flags) = refl
answered (Err Name) = refl

pub same_checked : (a b : Result ⊤ Fault) → fault_of a ≡ fault_of b → a ≡ b
same_checked a b e = sym (answered a) ∙ ap answer_of e ∙ answered b

pub same_front : (t : List ℕ) (a b : Result (Option (Entry × Bor (List ℕ))) Broken) → front_of a ≡ front t → front_of b ≡ front t → front_of a ≡ front_of b
same_front t a b e f = e ∙ sym f

pub same_walk : (t : List ℕ) (a b : Records) → Begun a t → Begun b t → (a.left ≡ b.left) × (a.bytes.now ≡ b.bytes.now)
same_walk t a b x y = (x.0 ∙ sym y.0, x.1 ∙ sym y.1)
