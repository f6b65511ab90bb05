-- The records of a table that the check accepts.
--   accepted_at   each has known flags and a window in the image; so has what stands for a record that is not there
use Prim.Native.Nat.{ℕ, zero, suc, ◌+◌}
use mathlib.Core.Path.{◌≡◌, refl}
use mathlib.Core.Bool.{Bool, true, false}
use mathlib.Core.List.{List, [], ◌∷◌}
use native.Mathlib.Omega.{arith}
use lib.Dec.{eqb, ltb, leb, leb-zero}
use lib.ListN.{get_or}
use Rattle.machine.specs.Choice.{pick}
use Rattle.wire.specs.Utf8.{valid}
use Rattle.wire.specs.Table.{Record, no_record, Front, nothing, broken, entry, front, listed, records_in, records, record_fault, first_fault, judged, faults, fault}

pub first_none : (a b : ℕ) → first_fault a b ≡ 0 → (a ≡ 0) × (b ≡ 0)
first_none zero b e = (refl, e)
first_none (suc a) b e = absurd (omega arith)

blank_accepted : (n : ℕ) → record_fault n no_record ≡ 0
blank_accepted n = rw (leb-zero n)

accepted_in : (n k : ℕ) (l : List ℕ) → faults n k l ≡ 0 → (i : ℕ) → record_fault n (get_or (records_in k l) i no_record) ≡ 0
unfolding faults records_in
accepted_in n zero l e i = blank_accepted n
accepted_in n (suc k) l e i = go (front l) i e (λ rest. accepted_in n k rest)
  where
    go : (f : Front) (i : ℕ) → judged n f (faults n k) ≡ 0
        → ((rest : List ℕ) → faults n k rest ≡ 0 → (i : ℕ) → record_fault n (get_or (records_in k rest) i no_record) ≡ 0)
        → record_fault n (get_or (listed f (records_in k)) i no_record) ≡ 0
    go nothing i e more = blank_accepted n
    go broken i e more = absurd (omega arith)
    go (entry r rest) zero e more = (first_none (record_fault n r) (faults n k rest) e).0
    go (entry r rest) (suc i) e more = more rest (first_none (record_fault n r) (faults n k rest) e).1 i

accepted : (n : ℕ) (t : List ℕ) → fault n t ≡ 0 → (i : ℕ) → record_fault n (get_or (records t) i no_record) ≡ 0
unfolding fault records
accepted n [] e i = absurd (omega arith)
accepted n (v ∷ l) e i = go (eqb v 1) e
  where
    go : (b : Bool) → pick b (faults n 32 l) 20 ≡ 0 → record_fault n (get_or (records_in 32 l) i no_record) ≡ 0
    go true e = accepted_in n 32 l e i
    go false e = absurd (omega arith)

no_fault : (n : ℕ) (r : Record) → record_fault n r ≡ 0 → (ltb r.flags 16 ≡ true) × (leb (r.start + r.size) n ≡ true)
no_fault n r e = go (ltb r.flags 16) (valid r.name) (leb (r.start + r.size) n) e
  where
    go : (a b c : Bool) → pick {A = ℕ} a (pick b (pick c 0 23) 25) 24 ≡ 0 → (a ≡ true) × (c ≡ true)
    go true true true e = (refl, refl)
    go true true false e = absurd (omega arith)
    go true false c e = absurd (omega arith)
    go false b c e = absurd (omega arith)

pub accepted_at : (n : ℕ) (t : List ℕ) → fault n t ≡ 0 → (i : ℕ)
    → (ltb (get_or (records t) i no_record).flags 16 ≡ true) × (leb ((get_or (records t) i no_record).start + (get_or (records t) i no_record).size) n ≡ true)
accepted_at n t e i = no_fault n (get_or (records t) i no_record) (accepted n t e i)
