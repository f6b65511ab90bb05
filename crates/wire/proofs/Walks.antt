-- The loops over a table, a turn at a time.
--   fault_empty, fault_version, fault_start   the version byte
--   faults_end, faults_broken, faults_record   what stands at the front, and what is behind it
--   first_faulty, passed_on    the first fault, where the code has found one; a fault that is passed on
--   faults_more, faults_done   after the last turn: a byte more begins the 33rd record
--   records_turn, records_end  the records from a place on, where one stands, and where none does
--   records_out                after the last turn
--   records_few                there are at most 32
use Prim.Native.Nat.{ℕ, zero, suc, ◌-◌, ◌≤◌, ◌<◌}
use mathlib.Core.Path.{◌≡◌, refl, ap, ◌∙◌}
use mathlib.Core.Logic.{◌⊎◌, inl, inr}
use mathlib.Core.List.{List, [], ◌∷◌}
use native.Mathlib.Omega.{arith}
use lib.ListN.{length, drop}
use borrow.Author.Tests.{eq-eqb, ne_eqb}
use Rattle.std.specs.Prelude.{Result, Ok, Err, ⊤, IsErrAnd}
use Rattle.wire.specs.Table.{first_fault, record_fault, fault_of, number_of, Record, Front, nothing, broken, entry, front, listed, records_in, records, judged, faults, fault}
use Rattle.wire.specs.declared.table.Fault.{Fault}
use Rattle.wire.specs.declared.table.Fault.TheVariants.{Version, Length, Count, Window, Flags, Name}

-- ---- the check
pub fault_empty : (n : ℕ) (t : List ℕ) → length t ≡ 0 → fault n t ≡ 20
unfolding fault
fault_empty n [] h = refl
fault_empty n (v ∷ l) h = absurd (omega arith)

pub fault_version : (n : ℕ) {v : ℕ} (l : List ℕ) → (v ≡ 1 → ⊥) → fault n (v ∷ l) ≡ 20
unfolding fault
fault_version n {v} l h = rw (ne_eqb v 1 h)

pub fault_start : (n : ℕ) {v : ℕ} (l : List ℕ) → v ≡ 1 → fault n (v ∷ l) ≡ faults n 32 l
unfolding fault
fault_start n {v} l h = rw (eq-eqb v 1 h)

faults_turn : (n k : ℕ) (l : List ℕ) → 0 < k → faults n k l ≡ judged n (front l) (faults n (k - 1))
unfolding faults
faults_turn n zero l h = absurd (omega arith)
faults_turn n (suc k) l h = let p : suc k - 1 ≡ k = omega arith in rw p

-- what stands at the front decides, or the first fault of what is behind it
pub faults_end : (n k : ℕ) (l : List ℕ) → front l ≡ nothing → 0 < k → faults n k l ≡ 0
faults_end n k l e h = faults_turn n k l h ∙ ap (λ (f : Front). judged n f (faults n (k - 1))) e

pub faults_broken : (n k : ℕ) (l : List ℕ) → front l ≡ broken → 0 < k → faults n k l ≡ 21
faults_broken n k l e h = faults_turn n k l h ∙ ap (λ (f : Front). judged n f (faults n (k - 1))) e

pub faults_record : (n k : ℕ) (l : List ℕ) {r : Record} {m : List ℕ} → front l ≡ entry r m → 0 < k
    → faults n k l ≡ first_fault (record_fault n r) (faults n (k - 1) m)
faults_record n k l e h = faults_turn n k l h ∙ ap (λ (f : Front). judged n f (faults n (k - 1))) e

pub first_faulty : (c : Result ⊤ Fault) (f : Fault) (later : ℕ) → c ≡ Err f → first_fault (fault_of c) later ≡ number_of f
first_faulty c f later e = ap (λ (c : Result ⊤ Fault). first_fault (fault_of c) later) e ∙ numbered f
  where
    numbered : (f : Fault) → first_fault (number_of f) later ≡ number_of f
    numbered Version = refl
    numbered Length = refl
    numbered Count = refl
    numbered Window = refl
    numbered Flags = refl
    numbered Name = refl

pub passed_on : (c : Result ⊤ Fault) (f : Fault) → IsErrAnd c (λ e. e ≡ f) → fault_of c ≡ number_of f
passed_on (Ok sound) f h = absurd h
passed_on (Err e) f h = ap number_of h

pub faults_more : (n k : ℕ) (l : List ℕ) → k ≤ 0 → 0 < length l → faults n k l ≡ 22
unfolding faults
faults_more n zero [] k h = absurd (omega arith)
faults_more n zero (b ∷ l) k h = refl
faults_more n (suc k) l z h = absurd (omega arith)

pub faults_done : (n k : ℕ) (l : List ℕ) → k ≤ 0 → length l ≡ 0 → faults n k l ≡ 0
unfolding faults
faults_done n zero [] k h = refl
faults_done n zero (b ∷ l) k h = absurd (omega arith)
faults_done n (suc k) l z h = absurd (omega arith)

-- ---- the records
pub records_out : (k : ℕ) (l : List ℕ) → k ≤ 0 → records_in k l ≡ []
unfolding records_in
records_out zero l h = refl
records_out (suc k) l h = absurd (omega arith)

pub records_turn : (k : ℕ) (l : List ℕ) {r : Record} {m : List ℕ} → front l ≡ entry r m → 0 < k → records_in k l ≡ r ∷ records_in (k - 1) m
unfolding records_in
records_turn zero l e h = absurd (omega arith)
records_turn (suc k) l e h = let q : suc k - 1 ≡ k = omega arith in rw (e, q)

pub records_end : (k : ℕ) (l : List ℕ) → (front l ≡ nothing) ⊎ (front l ≡ broken) → records_in k l ≡ []
unfolding records_in
records_end zero l e = refl
records_end (suc k) l (inl e) = rw e
records_end (suc k) l (inr e) = rw e

records_in_few : (k : ℕ) (l : List ℕ) → length (records_in k l) ≤ k
unfolding records_in
records_in_few zero l = omega arith
records_in_few (suc k) l = go (front l) (records_in_few k)
  where
    go : (f : Front) → ((m : List ℕ) → length (records_in k m) ≤ k) → length (listed f (records_in k)) ≤ suc k
    go nothing more = omega arith
    go broken more = omega arith
    go (entry r m) more = let h = more m in omega arith

pub records_few : (t : List ℕ) → length (records t) ≤ 32
unfolding records
records_few t = records_in_few 32 (drop 1 t)
