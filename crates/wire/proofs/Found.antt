-- What a lookup finds.
--   length_started, length_narrowed   a set has 32 Bools, and keeps them
--   narrowed_parts   a name in two parts narrows as the whole does
--   found_changing   tables that change from step to step (the set's record k at the end)
--   found_first      one table: what is chosen is the first record of that name
--   found_none       one table: nothing is chosen exactly where no record has that name
--   became_longer    the example of a record that has become longer
use Prim.Native.Nat.{ℕ, zero, suc, ◌+◌, ◌≤◌, ◌<◌}
use mathlib.Core.Path.{◌≡◌, refl, ap, sym, ◌∙◌}
use mathlib.Core.Bool.{Bool, true, false}
use mathlib.Core.List.{List, [], ◌∷◌, ◌++◌, map}
use Rattle.std.specs.Prelude.{Option, None, Some}
use mathlib.Core.Logic.{◌↔◌}
use native.Mathlib.Omega.{arith}
use lib.ListN.{length, get_or}
use lib.Seq.{ext_get_or}
use lib.Dec.{eqb, ltb}
use borrow.Author.Tests.{eq-eqb, eqb-true, ltb-true, lt-ltb}
use Rattle.wire.specs.Table.{Record}
use Rattle.wire.specs.Lookup.{started_in, started, has, narrowed, narrowed_by, chosen, later}
use Rattle.wire.specs.Found.{name_of, Named, First, Step, narrowed_under, Long, HasByte, Stays}
use Rattle.wire.proofs.Tests.{both_true, both_left, both_right}

-- ---- 32 Bools
length_started_in : (k : ℕ) (rs : List Record) (len : ℕ) → length (started_in k rs len) ≡ k
length_started_in zero rs len = refl
length_started_in (suc k) [] len = ap suc (length_started_in k [] len)
length_started_in (suc k) (r ∷ rs) len = ap suc (length_started_in k rs len)

pub length_started : (rs : List Record) (len : ℕ) → length (started rs len) ≡ 32
unfolding started
length_started rs len = length_started_in 32 rs len

length_once : (rs : List Record) (i b : ℕ) (set : List Bool) → length (narrowed rs i b set) ≡ length set
length_once rs i b [] = refl
length_once [] i b (x ∷ set) = ap suc (length_once [] i b set)
length_once (r ∷ rs) i b (x ∷ set) = ap suc (length_once rs i b set)

pub length_narrowed : (rs : List Record) (i : ℕ) (bs : List ℕ) (set : List Bool) → length (narrowed_by rs i bs set) ≡ length set
length_narrowed rs i [] set = refl
length_narrowed rs i (b ∷ bs) set = length_narrowed rs (suc i) bs (narrowed rs i b set) ∙ length_once rs i b set

-- ---- a name in parts
pub narrowed_parts : (rs : List Record) (i : ℕ) (a b : List ℕ) (set : List Bool)
    → narrowed_by rs i (a ++ b) set ≡ narrowed_by rs (i + length a) b (narrowed_by rs i a set)
narrowed_parts rs i [] b set = let e : i + 0 ≡ i = omega arith in rw e
narrowed_parts rs i (x ∷ a) b set =
    let e : i + suc (length a) ≡ suc i + length a = omega arith in
    rw e (narrowed_parts rs (suc i) a b (narrowed rs i x set))

-- ---- the set's record k
abbrev In : List Bool → ℕ → Type 0
In set k = get_or set k false ≡ true

narrowed_in : (rs : List Record) (i b : ℕ) (set : List Bool) (k : ℕ) → In (narrowed rs i b set) k → In set k × HasByte rs k i b
narrowed_in rs i b [] k e = let z : ◌≡◌ {A = ℕ} 0 1 = cc in absurd (omega arith)
narrowed_in [] i b (x ∷ set) zero e = let z : ◌≡◌ {A = ℕ} 0 1 = cc in absurd (omega arith)
narrowed_in [] i b (x ∷ set) (suc k) e = let z = (narrowed_in [] i b set k e).1.listed in absurd (omega arith)
narrowed_in (r ∷ rs) i b (x ∷ set) zero e =
    let h = both_right x (has r i b) e in (
      both_left x (has r i b) e,
      record {
        listed = omega arith;
        longer = ltb-true i (length r.name) (both_left (ltb i (length r.name)) (eqb (get_or r.name i 0) b) h);
        byte = eqb-true (get_or r.name i 0) b (both_right (ltb i (length r.name)) (eqb (get_or r.name i 0) b) h);
      },
    )
narrowed_in (r ∷ rs) i b (x ∷ set) (suc k) e =
    let w = narrowed_in rs i b set k e in
    (w.0, record { listed = omega arith; longer = w.1.longer; byte = w.1.byte })

in_narrowed : (rs : List Record) (i b : ℕ) (set : List Bool) (k : ℕ) → In set k → HasByte rs k i b → In (narrowed rs i b set) k
in_narrowed rs i b [] k e h = e
in_narrowed [] i b (x ∷ set) k e h = absurd (let l = h.listed in omega arith)
in_narrowed (r ∷ rs) i b (x ∷ set) zero e h = both_true e (both_true (lt-ltb i (length r.name) h.longer) (eq-eqb (get_or r.name i 0) b h.byte))
in_narrowed (r ∷ rs) i b (x ∷ set) (suc k) e h =
    in_narrowed rs i b set k e (let l = h.listed in record { listed = omega arith; longer = h.longer; byte = h.byte })

under_in : (i : ℕ) (ss : List Step) (set : List Bool) (k : ℕ) → In (narrowed_under i ss set) k → In set k × Stays i ss k
under_in i [] set k e = (e, tt)
under_in i (s ∷ ss) set k e =
    let w = under_in (suc i) ss (narrowed s.table i s.byte set) k e in
    let v = narrowed_in s.table i s.byte set k w.0 in
    (v.0, (v.1, w.1))

in_under : (i : ℕ) (ss : List Step) (set : List Bool) (k : ℕ) → In set k → Stays i ss k → In (narrowed_under i ss set) k
in_under i [] set k e h = e
in_under i (s ∷ ss) set k e h =
    in_under (suc i) ss (narrowed s.table i s.byte set) k (in_narrowed s.table i s.byte set k e h.0) h.1

started_in_lem : (n : ℕ) (rs : List Record) (len k : ℕ) → In (started_in n rs len) k → (k < n) × Long rs k len
started_in_lem zero rs len k e = let z : ◌≡◌ {A = ℕ} 0 1 = cc in absurd (omega arith)
started_in_lem (suc n) [] len zero e = let z : ◌≡◌ {A = ℕ} 0 1 = cc in absurd (omega arith)
started_in_lem (suc n) [] len (suc k) e = let z = (started_in_lem n [] len k e).1.listed in absurd (omega arith)
started_in_lem (suc n) (r ∷ rs) len zero e = (omega arith, record { listed = omega arith; long = eqb-true (length r.name) len e })
started_in_lem (suc n) (r ∷ rs) len (suc k) e =
    let w = started_in_lem n rs len k e in
    (omega arith, record { listed = omega arith; long = w.1.long })

in_started : (n : ℕ) (rs : List Record) (len k : ℕ) → k < n → Long rs k len → In (started_in n rs len) k
in_started zero rs len k h l = absurd (omega arith)
in_started (suc n) [] len k h l = absurd (let z = l.listed in omega arith)
in_started (suc n) (r ∷ rs) len zero h l = eq-eqb (length r.name) len l.long
in_started (suc n) (r ∷ rs) len (suc k) h l =
    in_started n rs len k (omega arith) (let z = l.listed in record { listed = omega arith; long = l.long })

pub found_changing : (rs : List Record) (len : ℕ) (steps : List Step) (k : ℕ)
    → (get_or (narrowed_under 0 steps (started rs len)) k false ≡ true) ↔ ((k < 32) × Long rs k len × Stays 0 steps k)
unfolding started
found_changing rs len steps k = (
  λ e.
      let w = under_in 0 steps (started rs len) k e in
      let v = started_in_lem 32 rs len k w.0 in
      (v.0, v.1, w.1),
  λ h. in_under 0 steps (started rs len) k (in_started 32 rs len k h.0 h.1) h.2,
)

-- ---- one table
abbrev under : List Record → ℕ → Step
under rs b = record { table = rs; byte = b }

by_steps : (rs : List Record) (i : ℕ) (bs : List ℕ) (set : List Bool) → narrowed_by rs i bs set ≡ narrowed_under i (map (under rs) bs) set
by_steps rs i [] set = refl
by_steps rs i (b ∷ bs) set = by_steps rs (suc i) bs (narrowed rs i b set)

stays_bytes : (rs : List Record) (i : ℕ) (bs : List ℕ) (k : ℕ) → Stays i (map (under rs) bs) k
    → (j : ℕ) → j < length bs → get_or (name_of rs k) (i + j) 0 ≡ get_or bs j 0
stays_bytes rs i [] k s j h = absurd (omega arith)
stays_bytes rs i (b ∷ bs) k s zero h = let e : i + 0 ≡ i = omega arith in rw e s.0.byte
stays_bytes rs i (b ∷ bs) k s (suc j) h = let e : i + suc j ≡ suc i + j = omega arith in rw e (stays_bytes rs (suc i) bs k s.1 j (omega arith))

bytes_stay : (rs : List Record) (i : ℕ) (bs : List ℕ) (k : ℕ)
    → ((j : ℕ) → j < length bs → HasByte rs k (i + j) (get_or bs j 0)) → Stays i (map (under rs) bs) k
bytes_stay rs i [] k s = tt
bytes_stay rs i (b ∷ bs) k s =
    let e : i + 0 ≡ i = omega arith in
    (rw e at (s 0 (omega arith)), bytes_stay rs (suc i) bs k (λ j h. let d : i + suc j ≡ suc i + j = omega arith in rw d at (s (suc j) (omega arith))))

module _ (rs : List Record) (name : List ℕ) where
  abbrev final : List Bool
  final = narrowed_by rs 0 name (started rs (length name))

  in_final : (k : ℕ) → In final k → Named rs k name
  in_final k e =
      let w = (found_changing rs (length name) (map (under rs) name) k).0 (rw by_steps at e) in
      record {
        listed = w.1.listed;
        named =
            ext_get_or 0 (name_of rs k) name w.1.long
            (λ j h. let z : 0 + j ≡ j = omega arith in rw z at (stays_bytes rs 0 name k w.2 j (omega (arith, w.1.long))));
      }

  final_in : length rs ≤ 32 → (k : ℕ) → Named rs k name → In final k
  final_in few k n =
      let l = n.listed in
      rw by_steps
      ((found_changing rs (length name) (map (under rs) name) k).1 (
        omega arith,
        record { listed = l; long = ap length n.named },
        bytes_stay rs 0 name k
            (λ j h. let z : 0 + j ≡ j = omega arith in record { listed = l; longer = rw (z, n.named) h; byte = rw (z, n.named) }),
      ))

-- ---- the lowest one
later_some : (o : Option ℕ) (k : ℕ) → later o ≡ Some k → (j : ℕ) × (o ≡ Some j) × (k ≡ suc j)
later_some None k e = let z : ◌≡◌ {A = ℕ} 0 1 = cc in absurd (omega arith)
later_some (Some j) k e = (j, refl, cc)

later_none : (o : Option ℕ) → later o ≡ None → o ≡ None
later_none None e = refl
later_none (Some j) e = let z : ◌≡◌ {A = ℕ} 0 1 = cc in absurd (omega arith)

chosen_in : (set : List Bool) (k : ℕ) → chosen set ≡ Some k → In set k × ((j : ℕ) → j < k → In set j → ⊥)
chosen_in [] k e = let z : ◌≡◌ {A = ℕ} 0 1 = cc in absurd (omega arith)
chosen_in (true ∷ set) k e =
    let z : 0 ≡ k = cc in
    (ap (λ (n : ℕ). get_or (true ∷ set) n false) (sym z), λ j h. absurd (omega arith))
chosen_in (false ∷ set) k e =
    let w = later_some (chosen set) k e in
    let v = chosen_in set w.0 w.1 in
    (ap (λ (n : ℕ). get_or (false ∷ set) n false) w.2 ∙ v.0, λ j h. below w.0 w.2 v.1 j h)
  where
    below : (m : ℕ) → k ≡ suc m → ((j : ℕ) → j < m → In set j → ⊥) → (j : ℕ) → j < k → In (false ∷ set) j → ⊥
    below m q n zero h i = let z : ◌≡◌ {A = ℕ} 0 1 = cc in omega arith
    below m q n (suc j) h i = n j (omega arith) i

in_chosen : (set : List Bool) (k : ℕ) → In set k → ((j : ℕ) → j < k → In set j → ⊥) → chosen set ≡ Some k
in_chosen [] k e n = let z : ◌≡◌ {A = ℕ} 0 1 = cc in absurd (omega arith)
in_chosen (true ∷ set) zero e n = refl
in_chosen (true ∷ set) (suc k) e n = absurd (n 0 (omega arith) refl)
in_chosen (false ∷ set) zero e n = let z : ◌≡◌ {A = ℕ} 0 1 = cc in absurd (omega arith)
in_chosen (false ∷ set) (suc k) e n = ap later (in_chosen set k e (λ j h. n (suc j) (omega arith)))

chosen_out : (set : List Bool) → chosen set ≡ None → (k : ℕ) → In set k → ⊥
chosen_out [] e k i = let z : ◌≡◌ {A = ℕ} 0 1 = cc in omega arith
chosen_out (true ∷ set) e k i = let z : ◌≡◌ {A = ℕ} 0 1 = cc in omega arith
chosen_out (false ∷ set) e zero i = let z : ◌≡◌ {A = ℕ} 0 1 = cc in omega arith
chosen_out (false ∷ set) e (suc k) i = chosen_out set (later_none (chosen set) e) k i

out_chosen : (set : List Bool) → ((k : ℕ) → In set k → ⊥) → chosen set ≡ None
out_chosen [] n = refl
out_chosen (true ∷ set) n = absurd (n 0 refl)
out_chosen (false ∷ set) n = ap later (out_chosen set (λ k. n (suc k)))

-- ---- what is found
module _ (rs : List Record) (name : List ℕ) (few : length rs ≤ 32) where
  pub found_first : (k : ℕ) → (chosen (narrowed_by rs 0 name (started rs (length name))) ≡ Some k) ↔ First rs name k
  found_first k = (
    λ e.
        let w = chosen_in (final rs name) k e in
        record { fits = in_final rs name k w.0; before = λ j h n. w.1 j h (final_in rs name few j n) },
    λ f. in_chosen (final rs name) k (final_in rs name few k f.fits) (λ j h i. f.before j h (in_final rs name j i)),
  )

  pub found_none : (chosen (narrowed_by rs 0 name (started rs (length name))) ≡ None) ↔ ((k : ℕ) → Named rs k name → ⊥)
  found_none = (
    λ e k n. chosen_out (final rs name) e k (final_in rs name few k n),
    λ n. out_chosen (final rs name) (λ k i. n k (in_final rs name k i)),
  )

-- ---- started with "ab" and "a" taken, then "b" under a table with "abc": chosen
abbrev only : List ℕ → List Record
only name = record { start = 0; size = 0; flags = 0; name = name } ∷ []

abbrev ab : List Record
ab = only (0x61 ∷ 0x62 ∷ [])

abbrev abc : List Record
abc = only (0x61 ∷ 0x62 ∷ 0x63 ∷ [])

pub became_longer : chosen (narrowed_under 0 (under ab 0x61 ∷ under abc 0x62 ∷ []) (started ab 2)) ≡ Some 0
unfolding started
became_longer = refl
