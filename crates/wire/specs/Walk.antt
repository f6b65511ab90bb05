-- For contracts that only the crates above cite, as the code walks a table: a reader of the rules can leave it out.
--   seen e         the record that an entry of the code stands for
--   front_of f     what the code's answer f stands for, as Table.antt has it
--   due w          the records that a walk has before it
--   Begun w t      the walk w stands before the first record of the table t
--   has_all r i bs   the record's name has those bytes from the place i on
--   sieve, share, passed   a set that is made record by record: before the first, what one adds, and after it
use Rattle.std.specs.Prelude.{ℕ, suc, ◌+◌, ◌*◌, ◌/◌, ◌%◌, ◌≡◌, Bool, true, List, [], ◌∷◌, drop, eqb, Option, Some, None, Result, Ok, Err}
use Rattle.std.specs.Borrow.{Bor}
use Rattle.machine.specs.Choice.{pick, both}
use Rattle.wire.specs.Table.{Record, Front, nothing, broken, entry, records_in}
use Rattle.wire.specs.Lookup.{has}
use Rattle.wire.specs.declared.records.Entry.{Entry}
use Rattle.wire.specs.declared.records.Broken.{Broken}
use Rattle.wire.specs.declared.records.Records.{Records}
use Rattle.wire.specs.declared.lookup.Sieve.{Sieve}

abbrev pub seen : Entry → Record
seen e = record { start = e.export.start; size = e.export.size; flags = e.export.flags; name = e.name.now }

abbrev pub front_of : Result (Option (Entry × Bor (List ℕ))) Broken → Front
front_of (Ok None) = nothing
front_of (Ok (Some found)) = entry (seen found.0) found.1.now
front_of (Err b) = broken

abbrev pub due : Records → List Record
due w = records_in w.left w.bytes.now

abbrev pub has_all : Record → ℕ → List ℕ → Bool
has_all r i [] = true
has_all r i (b ∷ bs) = both (has r i b) (has_all r (suc i) bs)

abbrev pub Begun : Records → List ℕ → Type 0
Begun w t = (w.left ≡ 32) × (w.bytes.now ≡ drop 1 t)

-- ---- the set: what is known of it, the digits of the old one that are left, and the weight of the next
abbrev pub sieve : ℕ → Sieve
sieve set = record { left = set; weight = 1; done = 0 }

-- the next record adds its weight, if it was in the old set and fits
abbrev pub share : Sieve → Bool → ℕ
share s fits = pick (both (eqb (s.left % 2) 1) fits) s.weight 0

abbrev pub passed : Sieve → Bool → Sieve
passed s fits = record { left = s.left / 2; weight = s.weight * 2; done = s.done + share s fits }
