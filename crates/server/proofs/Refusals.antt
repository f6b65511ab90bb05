-- The numbers of refusals.
--   fault_told   a table's fault comes before any other
use Prim.Native.Nat.{ℕ}
use mathlib.Core.Path.{◌≡◌, refl}
use Rattle.std.specs.Prelude.{Result, IsErrOf, ⊤}
use Rattle.wire.specs.Table.{first_fault, number_of}
use Rattle.wire.specs.declared.table.Fault.{Fault}
use Rattle.wire.specs.declared.table.Fault.TheVariants as fault
use Rattle.server.specs.Ranges.{refusal_of}
use Rattle.server.specs.declared.refusal.Refusal.{Refusal}
use Rattle.server.specs.declared.refusal.Refusal.TheVariants.{Table}

fault_first : (f : Fault) (later : ℕ) → number_of f ≡ first_fault (number_of f) later
fault_first fault.Version later = refl
fault_first fault.Length later = refl
fault_first fault.Count later = refl
fault_first fault.Window later = refl
fault_first fault.Flags later = refl
fault_first fault.Name later = refl

pub fault_told : (r : Result ⊤ Refusal) (f : Fault) (later : ℕ) {n : ℕ} → IsErrOf r (Table f) → number_of f ≡ n → refusal_of r ≡ first_fault n later
fault_told r f later e p = rw (e, ← p) (fault_first f later)
