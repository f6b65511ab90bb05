-- What the check of a table accepts.
--   sound_table    a table with no fault is the bytes of its records, and these are sound
--   table_sound    the bytes of sound records are a table with no fault, and are read as these records
--   sound_at       a sound list's record k is sound
--   window_at      its window lies in the image, also where there is no record k
--   fault_range    a fault is 20 to 25
use Prim.Native.Nat.{ℕ, zero, suc, ◌+◌, ◌≤◌, ◌<◌}
use mathlib.Core.Path.{◌≡◌, refl, ap, ◌∙◌}
use mathlib.Core.Bool.{Bool, true, false}
use mathlib.Core.List.{List, [], ◌∷◌, ◌++◌}
use mathlib.Core.Logic.{◌⊎◌, inl, inr}
use native.Mathlib.Omega.{arith}
use lib.ListN.{length, get_or}
use lib.Dec.{eqb, ltb, leb}
use borrow.Author.Tests.{ltb-true, lt-ltb, leb-true, le-leb, eqb-true}
use Rattle.machine.specs.Choice.{pick}
use Rattle.wire.specs.Fields.{Bytes}
use Rattle.wire.specs.Utf8.{valid}
use Rattle.wire.specs.Table.{Record, no_record, Front, nothing, broken, entry, front, listed, records_in, records, record_fault, first_fault, judged, faults, fault, record_bytes, records_bytes, table_bytes, SoundRecord, Each, Sound}
use Rattle.wire.proofs.Fronts.{front_empty, front_record, front_bytes}

-- ---- one record
record Passes (n : ℕ) (r : Record) : Type 0 where
  flags : ltb r.flags 16 ≡ true
  text : valid r.name ≡ true
  window : leb (r.start + r.size) n ≡ true

passes : (n : ℕ) (r : Record) → record_fault n r ≡ 0 → Passes n r
passes n r e = go (ltb r.flags 16) (valid r.name) (leb (r.start + r.size) n) refl refl refl e
  where
    go : (f v w : Bool) → ltb r.flags 16 ≡ f → valid r.name ≡ v → leb (r.start + r.size) n ≡ w
        → pick {A = ℕ} f (pick v (pick w 0 23) 25) 24 ≡ 0 → Passes n r
    go true true true a b c e = record { flags = a; text = b; window = c }
    go true true false a b c e = absurd (omega arith)
    go true false w a b c e = absurd (omega arith)
    go false v w a b c e = absurd (omega arith)

sound_passes : (n : ℕ) (r : Record) → SoundRecord n r → record_fault n r ≡ 0
sound_passes n r s = rw (lt-ltb r.flags 16 s.known_flags, s.text, le-leb (r.start + r.size) n s.window)

-- ---- a list of records
record Accepted (n k : ℕ) (l : List ℕ) (rs : List Record) : Type 0 where
  few : length rs ≤ k
  each : Each n rs
  bytes : l ≡ records_bytes rs

firsts : (f later : ℕ) → first_fault f later ≡ 0 → (f ≡ 0) × (later ≡ 0)
firsts zero later e = (refl, e)
firsts (suc f) later e = absurd (omega arith)

accepted : (n k : ℕ) (l : List ℕ) → Bytes l → faults n k l ≡ 0 → Accepted n k l (records_in k l)
unfolding faults records_in
accepted n zero [] b e = record { few = omega arith; each = tt; bytes = refl }
accepted n zero (x ∷ l) b e = absurd (omega arith)
accepted n (suc k) l b e = go (front l) refl e (λ m. accepted n k m)
  where
    go : (f : Front) → front l ≡ f → judged n f (faults n k) ≡ 0 → ((m : List ℕ) → Bytes m → faults n k m ≡ 0 → Accepted n k m (records_in k m))
        → Accepted n (suc k) l (listed f (records_in k))
    go nothing q e more = record { few = omega arith; each = tt; bytes = front_empty l q }
    go broken q e more = absurd (omega arith)
    go (entry r m) q e more =
        let s = front_record l r m b q in
        let z = firsts (record_fault n r) (faults n k m) e in
        let p = passes n r z.0 in
        let rest = more m s.rest_bytes z.1 in
        let few = rest.few in
        record {
          few = omega arith;
          each = (
            record {
              start_fits = s.start_fits;
              size_fits = s.size_fits;
              known_flags = ltb-true r.flags 16 p.flags;
              short_name = s.short_name;
              name_bytes = s.name_bytes;
              text = p.text;
              window = leb-true (r.start + r.size) n p.window;
            },
            rest.each,
          );
          bytes = s.bytes ∙ ap (λ (t : List ℕ). record_bytes r ++ t) rest.bytes;
        }

faultless : (n k : ℕ) (rs : List Record) → length rs ≤ k → Each n rs → faults n k (records_bytes rs) ≡ 0
unfolding front faults
faultless n zero [] h s = refl
faultless n (suc k) [] h s = refl
faultless n zero (r ∷ rs) h s = absurd (omega arith)
faultless n (suc k) (r ∷ rs) h s =
    rw (front_bytes r (records_bytes rs) s.0.start_fits s.0.size_fits s.0.short_name, sound_passes n r s.0)
    (faultless n k rs (omega arith) s.1)

read_back : (n k : ℕ) (rs : List Record) → length rs ≤ k → Each n rs → records_in k (records_bytes rs) ≡ rs
unfolding front records_in
read_back n zero [] h s = refl
read_back n (suc k) [] h s = refl
read_back n zero (r ∷ rs) h s = absurd (omega arith)
read_back n (suc k) (r ∷ rs) h s =
    rw (front_bytes r (records_bytes rs) s.0.start_fits s.0.size_fits s.0.short_name)
    (ap (λ (t : List Record). r ∷ t) (read_back n k rs (omega arith) s.1))

-- ---- a table
versioned : (v f : ℕ) → pick (eqb v 1) f 20 ≡ 0 → (v ≡ 1) × (f ≡ 0)
versioned v f e = go (eqb v 1) refl e
  where
    go : (t : Bool) → eqb v 1 ≡ t → pick t f 20 ≡ 0 → (v ≡ 1) × (f ≡ 0)
    go true q e = (eqb-true v 1 q, e)
    go false q e = absurd (omega arith)

pub sound_table : (n : ℕ) (t : List ℕ) → Bytes t → fault n t ≡ 0 → Sound n (records t) × (t ≡ table_bytes (records t))
unfolding fault records
sound_table n [] b e = absurd (omega arith)
sound_table n (v ∷ l) b e =
    let w = versioned v (faults n 32 l) e in
    let a = accepted n 32 l b.1 w.1 in
    (record { at_most = a.few; each = a.each }, rw w.0 (ap (λ (m : List ℕ). 1 ∷ m) a.bytes))

pub table_sound : (n : ℕ) (rs : List Record) → Sound n rs → (fault n (table_bytes rs) ≡ 0) × (records (table_bytes rs) ≡ rs)
unfolding fault records
table_sound n rs s = (faultless n 32 rs s.at_most s.each, read_back n 32 rs s.at_most s.each)

-- ---- record k
each_at : (n : ℕ) (rs : List Record) → Each n rs → (k : ℕ) → k < length rs → SoundRecord n (get_or rs k no_record)
each_at n [] s k h = absurd (omega arith)
each_at n (r ∷ rs) s zero h = s.0
each_at n (r ∷ rs) s (suc k) h = each_at n rs s.1 k (omega arith)

pub sound_at : {n : ℕ} {rs : List Record} → Sound n rs → (k : ℕ) → k < length rs → SoundRecord n (get_or rs k no_record)
sound_at {n} {rs} s k h = each_at n rs s.each k h

windows : (n : ℕ) (rs : List Record) → Each n rs → (k : ℕ) → (get_or rs k no_record).start + (get_or rs k no_record).size ≤ n
windows n [] s k = omega arith
windows n (r ∷ rs) s zero = s.0.window
windows n (r ∷ rs) s (suc k) = windows n rs s.1 k

pub window_at : {n : ℕ} {rs : List Record} → Sound n rs → (k : ℕ) → (get_or rs k no_record).start + (get_or rs k no_record).size ≤ n
window_at {n} {rs} s k = windows n rs s.each k

-- ---- the numbers
abbrev InRange : ℕ → Type 0
InRange f = (f ≡ 0) ⊎ ((20 ≤ f) × (f ≤ 25))

record_range : (f v w : Bool) → InRange (pick {A = ℕ} f (pick v (pick w 0 23) 25) 24)
record_range true true true = inl refl
record_range true true false = inr (omega arith)
record_range true false w = inr (omega arith)
record_range false v w = inr (omega arith)

first_range : (f later : ℕ) → InRange f → InRange later → InRange (first_fault f later)
first_range zero later a b = b
first_range (suc f) later a b = a

faults_range : (n k : ℕ) (l : List ℕ) → InRange (faults n k l)
unfolding faults
faults_range n zero [] = inl refl
faults_range n zero (b ∷ l) = inr (omega arith)
faults_range n (suc k) l = go (front l) (faults_range n k)
  where
    go : (f : Front) → ((m : List ℕ) → InRange (faults n k m)) → InRange (judged n f (faults n k))
    go nothing more = inl refl
    go broken more = inr (omega arith)
    go (entry r m) more =
        first_range (record_fault n r) (faults n k m) (record_range (ltb r.flags 16) (valid r.name) (leb (r.start + r.size) n)) (more m)

version_range : (t : Bool) (f : ℕ) → InRange f → InRange (pick t f 20)
version_range true f a = a
version_range false f a = inr (omega arith)

pub fault_range : (n : ℕ) (t : List ℕ) → (fault n t ≡ 0) ⊎ ((20 ≤ fault n t) × (fault n t ≤ 25))
unfolding fault
fault_range n [] = inr (omega arith)
fault_range n (v ∷ l) = version_range (eqb v 1) (faults n 32 l) (faults_range n 32 l)
