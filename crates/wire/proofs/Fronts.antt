-- What stands at the front of a list of bytes.
--   Fits l n       the length n, at the front of l, is in range and not past the end
--   sized_fits     what such a length gives
--   sized_broken   any other length is a fault
--   front_sized    a list that is not empty begins with a length
--   front_none, front_broken, front_fits   what stands there, by the length
--   front_empty    nothing only where there is no byte
--   front_record   a record's bytes stand there, with the record's ranges (Stands)
--   front_bytes    the bytes of a record, with whatever behind them, are read as that record
use Prim.Native.Nat.{ℕ, ◌+◌, ◌-◌, ◌^◌, ◌≤◌, ◌<◌}
use mathlib.Core.Path.{◌≡◌, refl, ap, sym, ◌∙◌}
use mathlib.Core.Bool.{Bool, true, false}
use mathlib.Core.List.{List, [], ◌∷◌, ◌++◌, append_assoc}
use native.Mathlib.Omega.{arith}
use lib.ListN.{length, get_or, take, drop, length-append, length-take, length-drop, take-append-drop}
use lib.Seq.{take_at, drop_at, drop-drop, drop-cons}
use lib.Dec.{leb}
use borrow.Author.Tests.{le-leb, leb-true}
use Rattle.machine.specs.Choice.{pick, between}
use Rattle.wire.specs.Fields.{be, number, field, Bytes}
use Rattle.wire.specs.Table.{Record, nothing, broken, entry, record_of, fits, sized, front, record_bytes}
use Rattle.wire.proofs.Tests.{both_left, both_right}
use Rattle.wire.proofs.BigEndian.{length_be, number_be, be_number, bytes_take, bytes_drop, field_lt}

-- a field at the front, and what is behind it
be_front : (n : ℕ) (l : List ℕ) → Bytes l → n ≤ length l → be n (number (take n l)) ++ drop n l ≡ l
be_front n l b h =
    let k : length (take n l) ≡ n = length-take n l ∙ omega arith in
    let e : be n (number (take n l)) ≡ take n l = rw k at (be_number (take n l) (bytes_take n l b)) in
    rw e (take-append-drop n l)

-- ---- a body: what a record's length counts
abbrev body_bytes : Record → List ℕ
body_bytes r = be 8 r.start ++ (be 8 r.size ++ r.flags ∷ r.name)

length_body : (r : Record) → length (body_bytes r) ≡ 17 + length r.name
length_body r =
    let a = length_be 8 r.start in
    let b = length_be 8 r.size in
    simp length-append (omega arith)

record_body : (r : Record) (l : List ℕ) → record_bytes r ++ l ≡ be 2 (17 + length r.name) ++ (body_bytes r ++ l)
unfolding record_bytes
record_body r l = simp append_assoc

-- the bytes of a body are read as its record
record_of_body : (r : Record) → r.start < 2 ^ 64 → r.size < 2 ^ 64 → record_of (body_bytes r) ≡ r
unfolding be
record_of_body r hs hz =
    λ i. record { start = number_be 8 r.start hs i; size = number_be 8 r.size hz i; flags = r.flags; name = r.name }

-- a body's bytes are those of the record that is read
body_of_record : (m : List ℕ) → Bytes m → 17 ≤ length m → body_bytes (record_of m) ≡ m
body_of_record m b h =
    let c : drop 16 m ≡ get_or m 16 0 ∷ drop 17 m = drop-cons m 16 0 h in
    let d : drop 8 (drop 8 m) ≡ drop 16 m = drop-drop 8 8 m in
    let e : be 8 (number (take 8 (drop 8 m))) ++ drop 8 (drop 8 m) ≡ drop 8 m =
    be_front 8 (drop 8 m) (bytes_drop 8 m b) (rw length-drop (omega arith)) in
    let f : be 8 (number (take 8 m)) ++ drop 8 m ≡ m = be_front 8 m b (omega arith) in
    rw (← c, ← d, e) f

-- ---- the length
pub record Fits (l : List ℕ) (n : ℕ) : Type 0 where
  pub low : 17 ≤ n
  pub high : n ≤ 4113
  pub within : 2 + n ≤ length l

fits_true : (l : List ℕ) (n : ℕ) → fits l n ≡ true → Fits l n
fits_true l n e =
    let range = both_left (between 17 4113 n) (leb (2 + n) (length l)) e in
    record {
      low = leb-true 17 n (both_left (leb 17 n) (leb n 4113) range);
      high = leb-true n 4113 (both_right (leb 17 n) (leb n 4113) range);
      within = leb-true (2 + n) (length l) (both_right (between 17 4113 n) (leb (2 + n) (length l)) e);
    }

pub sized_fits : (l : List ℕ) (n : ℕ) → Fits l n → sized l n ≡ entry (record_of (take n (drop 2 l))) (drop (2 + n) l)
unfolding sized
sized_fits l n f = rw (le-leb 17 n f.low, le-leb n 4113 f.high, le-leb (2 + n) (length l) f.within)

pub sized_broken : (l : List ℕ) (n : ℕ) → (Fits l n → ⊥) → sized l n ≡ broken
unfolding sized
sized_broken l n unfit = go (fits l n) refl
  where
    go : (t : Bool) → fits l n ≡ t → pick t (entry (record_of (take n (drop 2 l))) (drop (2 + n) l)) broken ≡ broken
    go true e = absurd (unfit (fits_true l n e))
    go false e = refl

-- ---- the front
pub front_sized : (l : List ℕ) → 0 < length l → front l ≡ sized l (field l 0 2)
unfolding front
front_sized [] h = absurd (omega arith)
front_sized (b ∷ l) h = refl

pub front_none : (l : List ℕ) → length l ≡ 0 → front l ≡ nothing
unfolding front
front_none [] h = refl
front_none (b ∷ l) h = absurd (omega arith)

pub front_broken : (l : List ℕ) → 0 < length l → (Fits l (field l 0 2) → ⊥) → front l ≡ broken
front_broken l h unfit = front_sized l h ∙ sized_broken l (field l 0 2) unfit

pub front_fits : (l : List ℕ) {n : ℕ} → n ≡ field l 0 2 → Fits l n → front l ≡ entry (record_of (take n (drop 2 l))) (drop n (drop 2 l))
front_fits l {n} e f =
    let h = f.within in
    front_sized l (omega arith) ∙ ap (sized l) (sym e) ∙ sized_fits l n f ∙ ap (entry (record_of (take n (drop 2 l)))) (sym (drop-drop n 2 l))

pub front_empty : (l : List ℕ) → front l ≡ nothing → l ≡ []
unfolding front
front_empty [] e = refl
front_empty (b ∷ l) e = absurd (go (fits (b ∷ l) (field (b ∷ l) 0 2)) _ _ e)
  where
    go : (t : Bool) (r : Record) (m : List ℕ) → pick t (entry r m) broken ≡ nothing → ⊥
    go true r m e = let z : ◌≡◌ {A = ℕ} 0 1 = cc in omega arith
    go false r m e = let z : ◌≡◌ {A = ℕ} 0 1 = cc in omega arith

pub record Stands (l : List ℕ) (r : Record) (m : List ℕ) : Type 0 where
  pub bytes : l ≡ record_bytes r ++ m
  pub start_fits : r.start < 2 ^ 64
  pub size_fits : r.size < 2 ^ 64
  pub short_name : length r.name ≤ 4096
  pub name_bytes : Bytes r.name
  pub rest_bytes : Bytes m

reads : (l : List ℕ) (n : ℕ) → Bytes l → field l 0 2 ≡ n → Fits l n → Stands l (record_of (take n (drop 2 l))) (drop (2 + n) l)
reads l n b e f =
    let body = take n (drop 2 l) in
    let k : length body ≡ n = length-take n (drop 2 l) ∙ omega (arith, length-drop 2 l) in
    let bb : Bytes body = bytes_take n (drop 2 l) (bytes_drop 2 l b) in
    let name : length (drop 17 body) ≡ n - 17 = length-drop 17 body ∙ omega arith in
    let whole : 17 + length (drop 17 body) ≡ field l 0 2 = omega arith in
    let behind : drop n (drop 2 l) ≡ drop (2 + n) l = drop-drop n 2 l in
    let split : body ++ drop n (drop 2 l) ≡ drop 2 l = take-append-drop n (drop 2 l) in
    record {
      bytes = sym (record_body (record_of body) (drop (2 + n) l) ∙ rw (body_of_record body bb (omega arith), whole, ← behind, split) (be_front 2 l b (omega arith)));
      start_fits = field_lt body 0 8 bb;
      size_fits = field_lt body 8 8 bb;
      short_name = omega arith;
      name_bytes = bytes_drop 17 body bb;
      rest_bytes = bytes_drop (2 + n) l b;
    }

record Picked (t : Bool) (r r' : Record) (m m' : List ℕ) : Type 0 where
  test : t ≡ true
  same : r ≡ r'
  rest : m ≡ m'

picked : (t : Bool) (r r' : Record) (m m' : List ℕ) → pick t (entry r m) broken ≡ entry r' m' → Picked t r r' m m'
picked true r r' m m' e = record { test = refl; same = cc; rest = cc }
picked false r r' m m' e = let z : ◌≡◌ {A = ℕ} 0 1 = cc in absurd (omega arith)

pub front_record : (l : List ℕ) (r : Record) (m : List ℕ) → Bytes l → front l ≡ entry r m → Stands l r m
unfolding front
front_record [] r m b e = let z : ◌≡◌ {A = ℕ} 0 1 = cc in absurd (omega arith)
front_record (x ∷ l) r m b e =
    let n = field (x ∷ l) 0 2 in
    let w = picked (fits (x ∷ l) n) _ r _ m e in
    rw (← w.same, ← w.rest) (reads (x ∷ l) n b refl (fits_true (x ∷ l) n w.test))

pub front_bytes : (r : Record) (l : List ℕ) → r.start < 2 ^ 64 → r.size < 2 ^ 64 → length r.name ≤ 4096 → front (record_bytes r ++ l) ≡ entry r l
front_bytes r l hs hz hn =
    let n = 17 + length r.name in
    let two : length (be 2 n) ≡ 2 = length_be 2 n in
    let body : length (body_bytes r) ≡ n = length_body r in
    let t = be 2 n ++ (body_bytes r ++ l) in
    let long : length t ≡ 2 + (n + length l) = length-append (be 2 n) (body_bytes r ++ l) ∙ omega (arith, length-append (body_bytes r) l) in
    let head : field t 0 2 ≡ n = ap number (take_at (be 2 n) (body_bytes r ++ l) 2 two) ∙ number_be 2 n (omega arith) in
    let behind : drop 2 t ≡ body_bytes r ++ l = drop_at (be 2 n) (body_bytes r ++ l) 2 two in
    let rest : drop (2 + n) t ≡ l = sym (drop-drop n 2 t) ∙ ap (drop n) behind ∙ drop_at (body_bytes r) l n body in
    rw record_body
    (front_sized t (omega arith) ∙ ap (sized t) head ∙ sized_fits t n (omega arith)
    ∙ rw (behind, rest, take_at (body_bytes r) l n body, record_of_body r hs hz))
