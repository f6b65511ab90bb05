-- A set that is made in one walk over the records.
--   sieved p rs set    those of the set that have a record of which p holds
--   started_sieved     starting is a sieve over all 32
--   narrowed_sieved    narrowing by a part of a name, a byte after the other, is one sieve by the whole part
--   narrowed_none      no byte, no change
--   has_all_starts     a record has all the bytes of a part where its name, from the place on, starts with them
--   has_all_long       it has not where the part passes the name's end
--   sieved_lt          the word of a sieve over 32 digits; sieved_set: it stands for the sieve
--   Sieving            what holds of the walk: what is known and what is due make the whole
--   sieve_start, sieve_turn, sieve_fits, sieve_end   the walk over records
use Prim.Native.Nat.{ℕ, zero, suc, ◌+◌, ◌-◌, ◌*◌, ◌/◌, ◌%◌, ◌^◌, ◌≤◌, ◌<◌}
use mathlib.Core.Path.{◌≡◌, refl, ap, ◌∙◌}
use mathlib.Core.Bool.{Bool, true, false}
use mathlib.Core.List.{List, [], ◌∷◌}
use native.Mathlib.Omega.{arith}
use native.Mathlib.Nat.{pow-suc, pow-succ', one-le-pow, mul-add, mul_assoc, mul-le-mul_left}
use lib.ListN.{length, get_or, drop, drop_of_length-le}
use lib.Seq.{drop-cons}
use lib.Dec.{eqb, ltb}
use Rattle.std.specs.Prelude.{◌&&◌}
use Rattle.std.specs.List.{starts_with}
use Rattle.std.specs.Cmp.{nat_eq_equiv}
use borrow.Author.Tests.{le-ltb, ltb-true, ltb-false}
use Rattle.machine.specs.Choice.{pick, both}
use Rattle.wire.specs.Table.{Record}
use Rattle.wire.specs.Lookup.{started_in, started, has, narrowed, narrowed_by, digit, word, bits, set_of}
use Rattle.wire.specs.Walk.{has_all, sieve, passed}
use Rattle.wire.specs.declared.lookup.Sieve.{Sieve}
use Rattle.wire.proofs.Words.{word_lt, bits_word, length_bits}

abbrev pub sieved : (Record → Bool) → List Record → List Bool → List Bool
sieved p rs [] = []
sieved p [] (x ∷ xs) = false ∷ sieved p [] xs
sieved p (r ∷ rs) (x ∷ xs) = both x (p r) ∷ sieved p rs xs

-- ---- starting
all_digits : (k : ℕ) → bits (suc k) (2 ^ suc k - 1) ≡ true ∷ bits k (2 ^ k - 1)
unfolding bits
all_digits k =
    let pos : 1 ≤ 2 ^ k = one-le-pow k 2 (omega arith) in
    let odd : (2 ^ k * 2 - 1) % 2 ≡ 1 = omega arith in
    let half : (2 ^ k * 2 - 1) / 2 ≡ 2 ^ k - 1 = omega arith in
    rw (pow-suc 2 k, odd, half)

started_in_lem : (k : ℕ) (rs : List Record) (len : ℕ) → started_in k rs len ≡ sieved (λ r. eqb (length r.name) len) rs (bits k (2 ^ k - 1))
started_in_lem zero rs len = unfold bits in refl
started_in_lem (suc k) [] len = rw (all_digits k) (ap (λ (xs : List Bool). false ∷ xs) (started_in_lem k [] len))
started_in_lem (suc k) (r ∷ rs) len = rw (all_digits k) (ap (λ (xs : List Bool). eqb (length r.name) len ∷ xs) (started_in_lem k rs len))

pub started_sieved : (rs : List Record) (len : ℕ) → started rs len ≡ sieved (λ r. eqb (length r.name) len) rs (bits 32 0xFFFFFFFF)
unfolding started
started_sieved rs len = started_in_lem 32 rs len

-- ---- narrowing
both_assoc : (x y z : Bool) → both (both x y) z ≡ both x (both y z)
both_assoc true y z = refl
both_assoc false y z = refl

both_all : (x : Bool) → both x true ≡ x
both_all true = refl
both_all false = refl

both_none : (x : Bool) → both x false ≡ false
both_none true = refl
both_none false = refl

sieved_twice : (p q : Record → Bool) (rs : List Record) (set : List Bool) → sieved q rs (sieved p rs set) ≡ sieved (λ r. both (p r) (q r)) rs set
sieved_twice p q rs [] = refl
sieved_twice p q [] (x ∷ set) = ap (λ (xs : List Bool). false ∷ xs) (sieved_twice p q [] set)
sieved_twice p q (r ∷ rs) (x ∷ set) = rw (both_assoc x (p r) (q r), sieved_twice p q rs set)

narrowed_once : (rs : List Record) (i b : ℕ) (set : List Bool) → narrowed rs i b set ≡ sieved (λ r. has r i b) rs set
narrowed_once rs i b [] = refl
narrowed_once [] i b (x ∷ set) = ap (λ (xs : List Bool). false ∷ xs) (narrowed_once [] i b set)
narrowed_once (r ∷ rs) i b (x ∷ set) = ap (λ (xs : List Bool). both x (has r i b) ∷ xs) (narrowed_once rs i b set)

narrowed_last : (rs : List Record) (i b : ℕ) (set : List Bool) → narrowed rs i b set ≡ sieved (λ r. has_all r i (b ∷ [])) rs set
narrowed_last rs i b [] = refl
narrowed_last [] i b (x ∷ set) = ap (λ (xs : List Bool). false ∷ xs) (narrowed_last [] i b set)
narrowed_last (r ∷ rs) i b (x ∷ set) = rw (both_all (has r i b), narrowed_last rs i b set)

narrowed_cons : (rs : List Record) (i b : ℕ) (bs : List ℕ) (set : List Bool) → narrowed_by rs i (b ∷ bs) set ≡ sieved (λ r. has_all r i (b ∷ bs)) rs set
narrowed_cons rs i b [] set = narrowed_last rs i b set
narrowed_cons rs i b (c ∷ bs) set =
    narrowed_cons rs (suc i) c bs (narrowed rs i b set)
    ∙ ap (sieved (λ r. has_all r (suc i) (c ∷ bs)) rs) (narrowed_once rs i b set)
    ∙ sieved_twice (λ r. has r i b) (λ r. has_all r (suc i) (c ∷ bs)) rs set

pub narrowed_sieved : (rs : List Record) (i : ℕ) (part : List ℕ) (set : List Bool) → 0 < length part
    → narrowed_by rs i part set ≡ sieved (λ r. has_all r i part) rs set
narrowed_sieved rs i [] set h = absurd (omega arith)
narrowed_sieved rs i (b ∷ bs) set h = narrowed_cons rs i b bs set

pub narrowed_none : (rs : List Record) (i : ℕ) (part : List ℕ) (set : List Bool) → length part ≡ 0 → narrowed_by rs i part set ≡ set
narrowed_none rs i [] set h = refl
narrowed_none rs i (b ∷ bs) set h = absurd (omega arith)

-- ---- one record against a part
-- the library's test, byte by byte
starts_cons : (b c : ℕ) (bs l : List ℕ) → starts_with eqb (c ∷ l) (b ∷ bs) ≡ both (eqb c b) (starts_with eqb l bs)
starts_cons b c bs l = rw (nat_eq_equiv.symm b c) (go (eqb c b))
  where
    go : (t : Bool) → (t && starts_with eqb l bs) ≡ both t (starts_with eqb l bs)
    go true = refl
    go false = refl

pub has_all_starts : (r : Record) (i : ℕ) (bs : List ℕ) → starts_with eqb (drop i r.name) bs ≡ has_all r i bs
has_all_starts r i [] = refl
has_all_starts r i (b ∷ bs) = go (ltb i (length r.name)) refl (has_all_starts r (suc i) bs)
  where
    go : (t : Bool) → ltb i (length r.name) ≡ t → starts_with eqb (drop (suc i) r.name) bs ≡ has_all r (suc i) bs
        → starts_with eqb (drop i r.name) (b ∷ bs) ≡ has_all r i (b ∷ bs)
    go true e rest =
        let c = get_or r.name i 0 in
        rw (drop-cons r.name i 0 (ltb-true i (length r.name) e), e, starts_cons b c bs (drop (suc i) r.name), rest)
    go false e rest = rw (drop_of_length-le r.name {i = i} (ltb-false i (length r.name) e), e)

pub has_all_long : (r : Record) (i : ℕ) (bs : List ℕ) → 0 < length bs → length r.name < i + length bs → has_all r i bs ≡ false
has_all_long r i [] n h = absurd (omega arith)
has_all_long r i (b ∷ []) n h = rw (le-ltb i (length r.name) (omega arith))
has_all_long r i (b ∷ c ∷ bs) n h = rw (has_all_long r (suc i) (c ∷ bs) (omega arith) (omega arith)) (both_none (has r i b))

-- ---- the walk
length_sieved : (p : Record → Bool) (rs : List Record) (set : List Bool) → length (sieved p rs set) ≡ length set
length_sieved p rs [] = refl
length_sieved p [] (x ∷ set) = ap suc (length_sieved p [] set)
length_sieved p (r ∷ rs) (x ∷ set) = ap suc (length_sieved p rs set)

pub sieved_lt : (p : Record → Bool) (rs : List Record) (w : ℕ) → word (sieved p rs (bits 32 w)) < 2 ^ 32
sieved_lt p rs w =
    let l : length (sieved p rs (bits 32 w)) ≡ 32 = length_sieved p rs (bits 32 w) ∙ length_bits 32 w in
    rw l at (word_lt (sieved p rs (bits 32 w)))

pub sieved_set : (p : Record → Bool) (rs : List Record) (w : ℕ) {n : ℕ} → n ≡ word (sieved p rs (set_of w)) → set_of n ≡ sieved p rs (set_of w)
sieved_set p rs w e = ap set_of e ∙ bits_word (sieved p rs (set_of w)) 32 (length_sieved p rs (set_of w) ∙ length_bits 32 w)

word_none : (p : Record → Bool) (set : List Bool) → word (sieved p [] set) ≡ 0
word_none p [] = refl
word_none p (x ∷ set) = let z = word_none p set in omega arith

-- `many`: how many digits of the old set are left
pub record Sieving (p : Record → Bool) (whole : ℕ) (rs : List Record) (s : Sieve) : Type 0 where
  pub many : ℕ
  pub enough : length rs ≤ many
  pub value : s.done + s.weight * word (sieved p rs (bits many s.left)) ≡ whole
  pub weight : s.weight * 2 ^ many ≡ 2 ^ 32

pub sieve_start : (p : Record → Bool) (rs : List Record) (set : ℕ) → length rs ≤ 32 → Sieving p (word (sieved p rs (bits 32 set))) rs (sieve set)
sieve_start p rs set few = record { many = 32; enough = few; value = omega arith; weight = refl }

pub sieve_end : {p : Record → Bool} {whole : ℕ} {rs : List Record} {s : Sieve} → Sieving p whole rs s → rs ≡ [] → s.done ≡ whole
sieve_end {p} {whole} {rs} {s} w e =
    let none : word (sieved p rs (bits w.many s.left)) ≡ 0 = rw e (word_none p (bits w.many s.left)) in
    let value : s.done + s.weight * 0 ≡ whole = rw none at w.value in
    omega arith

-- the next digit's part, and what is due behind it
turn_value : (d w rest : ℕ) (t : Bool) → d + pick t w 0 + w * 2 * rest ≡ d + w * (digit t + 2 * rest)
turn_value d w rest true = omega (arith, mul-add w 1 (2 * rest), mul_assoc w 2 rest)
turn_value d w rest false = omega (arith, mul-add w 0 (2 * rest), mul_assoc w 2 rest)

turn : (p : Record → Bool) (whole : ℕ) (r : Record) (rs : List Record) (s : Sieve) (k : ℕ)
    → suc (length rs) ≤ k → s.done + s.weight * word (sieved p (r ∷ rs) (bits k s.left)) ≡ whole → s.weight * 2 ^ k ≡ 2 ^ 32
    → Sieving p whole rs (passed s (p r)) × (s.weight < 2 ^ 32)
unfolding bits
turn p whole r rs s zero few v w = absurd (omega arith)
turn p whole r rs s (suc k) few v w =
    let pos : 1 ≤ 2 ^ k = one-le-pow k 2 (omega arith) in
    let double : s.weight * 2 ≤ s.weight * 2 ^ suc k = rw (pow-succ' 2 k) (mul-le-mul_left s.weight (omega arith)) in (
      record {
        many = k;
        enough = omega arith;
        value = turn_value s.done s.weight (word (sieved p rs (bits k (s.left / 2)))) (both (eqb (s.left % 2) 1) (p r)) ∙ v;
        weight = mul_assoc s.weight 2 (2 ^ k) ∙ rw (← pow-succ' 2 k) w;
      },
      omega arith,
    )

module _ {p : Record → Bool} {whole : ℕ} {r : Record} {rs : List Record} {s : Sieve} (w : Sieving p whole (r ∷ rs) s) where
  pub sieve_turn : Sieving p whole rs (passed s (p r))
  sieve_turn = (turn p whole r rs s w.many w.enough w.value w.weight).0

  pub sieve_fits : whole < 2 ^ 32 → (s.weight < 2 ^ 32) × ((passed s (p r)).done < 2 ^ 32)
  sieve_fits small = let value = sieve_turn.value in ((turn p whole r rs s w.many w.enough w.value w.weight).1, omega arith)
