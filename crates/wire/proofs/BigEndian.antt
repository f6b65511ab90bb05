-- Laws of numbers on the wire, over the width.
--   length_be      the bytes of a number at width n are n
--   bytes_be       each is a byte
--   be_at          the byte at a place, by how many stand behind it
--   number_be      the bytes of a number that has n of them stand for it
--   be_same        two such numbers with the same bytes are equal
--   be_number      bytes are those of the number that they stand for
--   number_lt      n bytes stand for a number below 256 ^ n
--   number_snoc    one byte more: the number so far times 256, and the byte
--   shift_bytes    a shift by 8 bits for each byte divides by that power of 256
--   bytes_each     what fits 8 bits at each place, as of a slice is known, is bytes
--   bytes_take, bytes_drop, bytes_append
--   field_lt       a field of n bytes is below 256 ^ n
--   field_fits     and one of at most 8 bytes fits 64 bits
--   number_take    one byte more of a list
--   same_bytes_refl, same_bytes_eq   the test `same_bytes` says whether the lists are equal
--   same_pointwise   the library's test answers the same
use Prim.Native.Nat.{ℕ, zero, suc, ◌+◌, ◌*◌, ◌/◌, ◌%◌, ◌^◌, ◌≤◌, ◌<◌}
use mathlib.Core.Path.{◌≡◌, refl, sym, ap, ◌∙◌}
use mathlib.Core.Bool.{Bool, true, false}
use mathlib.Core.List.{List, [], ◌∷◌, ◌++◌}
use native.Mathlib.Omega.{arith}
use native.Mathlib.Nat.{pow-zero, pow-suc, pow-succ', one-le-pow, mul_assoc, add-mul, mod-one, mod-eq_of_lt, lt_of_lt_of_le, pow-le-pow_right, mul-add-div_right, mul-add-mod_self_right}
use native.Mathlib.Numerals.{add-one}
use lib.Arith.{digits_lt, digits_div, mod-mul}
use lib.Pow.{pow-add}
use lib.ListN.{length, take, drop, get_or, length-append, length-take}
use lib.Seq.{take-suc}
use lib.Dec.{eqb}
use lib.Pointwise.{pointwise}
use mathlib.Core.Bool.{◌&&◌}
use mir.Syntax.{w8}
use mir.Val.{Fits}
use borrow.Author.Tests.{eqb-true, eq-eqb}
use Rattle.machine.specs.Choice.{both}
use Rattle.wire.specs.Fields.{be, number, field, Bytes, same_bytes}

-- a place's weight
weight_pos : (n : ℕ) → 0 < 256 ^ n
weight_pos n = one-le-pow n 256 (omega arith)

-- ---- the bytes of a number
pub length_be : (n x : ℕ) → length (be n x) ≡ n
unfolding be
length_be zero x = refl
length_be (suc n) x = ap suc (length_be n x)

pub bytes_be : (n x : ℕ) → Bytes (be n x)
unfolding be
bytes_be zero x = tt
bytes_be (suc n) x = (omega arith, bytes_be n x)

pub be_at : (n x i k : ℕ) → i + suc k ≡ n → get_or (be n x) i 0 ≡ x / 256 ^ k % 256
unfolding be
be_at zero x i k e = absurd (omega arith)
be_at (suc n) x zero k e = let s : n ≡ k = omega arith in rw s
be_at (suc n) x (suc i) k e = be_at n x i k (omega arith)

-- what stands above the n bytes is not in them
be_low : (n q x : ℕ) → be n (q * 256 ^ n + x) ≡ be n x
unfolding be
be_low zero q x = refl
be_low (suc n) q x =
    let s : q * 256 ^ suc n ≡ q * 256 * 256 ^ n = ap (λ (w : ℕ). q * w) (pow-succ' 256 n) ∙ sym (mul_assoc q 256 (256 ^ n)) in
    let d : (q * 256 * 256 ^ n + x) / 256 ^ n ≡ q * 256 + x / 256 ^ n = mul-add-div_right (weight_pos n) (q * 256) x in
    rw (s, d, mul-add-mod_self_right, be_low n (q * 256) x)

-- ---- the number and its bytes
number_low : (n x : ℕ) → number (be n x) ≡ x % 256 ^ n
unfolding be number
number_low zero x = rw pow-zero (sym (mod-one x))
number_low (suc n) x = rw (length_be n x, number_low n x, pow-succ') (sym (mod-mul x (omega arith) (weight_pos n)))

pub number_be : (n x : ℕ) → x < 256 ^ n → number (be n x) ≡ x
number_be n x h = number_low n x ∙ mod-eq_of_lt h

pub be_same : (n x y : ℕ) → x < 256 ^ n → y < 256 ^ n → be n x ≡ be n y → x ≡ y
be_same n x y h k e = sym (number_be n x h) ∙ ap number e ∙ number_be n y k

pub number_lt : (bs : List ℕ) → Bytes bs → number bs < 256 ^ length bs
unfolding number
number_lt [] t = rw pow-zero (omega arith)
number_lt (b ∷ bs) t = rw pow-succ' (digits_lt t.0 (number_lt bs t.1))

pub be_number : (bs : List ℕ) → Bytes bs → be (length bs) (number bs) ≡ bs
unfolding be number
be_number [] t = refl
be_number (b ∷ bs) t =
    rw (digits_div b (number_lt bs t.1), mod-eq_of_lt t.0, be_low (length bs) b (number bs), be_number bs t.1)

pub number_snoc : (bs : List ℕ) (b : ℕ) → number (bs ++ b ∷ []) ≡ number bs * 256 + b
unfolding number
number_snoc [] b = rw pow-zero (omega arith)
number_snoc (a ∷ bs) b =
    let n : length (bs ++ b ∷ []) ≡ suc (length bs) = length-append bs (b ∷ []) ∙ omega arith in
    rw (n, number_snoc bs b, pow-suc, add-mul, ← mul_assoc) (omega arith)

pub shift_bytes : (k : ℕ) → 2 ^ (8 * k) ≡ 256 ^ k
shift_bytes zero = refl
shift_bytes (suc k) =
    let s : 8 * suc k ≡ 8 + 8 * k = omega arith in
    rw (s, pow-add 2 8 (8 * k), shift_bytes k, pow-succ' 256 k)

-- ---- bytes
pub bytes_each : (l : List ℕ) → ((i : ℕ) → Fits w8 (get_or l i 0)) → Bytes l
bytes_each [] h = tt
bytes_each (b ∷ l) h = ((h 0).fits, bytes_each l (λ i. h (suc i)))

pub bytes_take : (n : ℕ) (l : List ℕ) → Bytes l → Bytes (take n l)
bytes_take zero l t = tt
bytes_take (suc n) [] t = tt
bytes_take (suc n) (b ∷ l) t = (t.0, bytes_take n l t.1)

pub bytes_drop : (n : ℕ) (l : List ℕ) → Bytes l → Bytes (drop n l)
bytes_drop zero l t = t
bytes_drop (suc n) [] t = tt
bytes_drop (suc n) (b ∷ l) t = bytes_drop n l t.1

pub bytes_append : (l m : List ℕ) → Bytes l → Bytes m → Bytes (l ++ m)
bytes_append [] m t u = u
bytes_append (b ∷ l) m t u = (t.0, bytes_append l m t.1 u)

-- ---- fields
pub field_lt : (l : List ℕ) (at n : ℕ) → Bytes l → field l at n < 256 ^ n
field_lt l at n t =
    lt_of_lt_of_le (number_lt (take n (drop at l)) (bytes_take n (drop at l) (bytes_drop at l t)))
    (pow-le-pow_right (omega arith) (rw length-take (omega arith)))

pub field_fits : (l : List ℕ) (at n : ℕ) → Bytes l → n ≤ 8 → field l at n < 2 ^ 64
field_fits l at n t h = lt_of_lt_of_le (field_lt l at n t) (pow-le-pow_right (omega arith) h)

pub number_take : (l : List ℕ) (i : ℕ) → i < length l → number (take (i + 1) l) ≡ number (take i l) * 256 + get_or l i 0
number_take l i h = rw (add-one, take-suc l i 0 h, number_snoc)

pub number_fits : (l : List ℕ) (i : ℕ) → Bytes l → i ≤ 8 → number (take i l) < 2 ^ 64
number_fits l i t h = field_fits l 0 i t h

-- ---- the test of equality
pub same_bytes_refl : (l : List ℕ) → same_bytes l l ≡ true
unfolding same_bytes
same_bytes_refl [] = refl
same_bytes_refl (b ∷ l) = rw (eq-eqb b b refl, same_bytes_refl l)

pub same_bytes_eq : (l m : List ℕ) → same_bytes l m ≡ true → l ≡ m
unfolding same_bytes
same_bytes_eq [] [] e = refl
same_bytes_eq [] (c ∷ m) e = cc
same_bytes_eq (b ∷ l) [] e = cc
same_bytes_eq (b ∷ l) (c ∷ m) e = heads (eqb b c) refl e (same_bytes_eq l m)
  where
    heads : (t : Bool) → eqb b c ≡ t → both t (same_bytes l m) ≡ true → (same_bytes l m ≡ true → l ≡ m) → b ∷ l ≡ c ∷ m
    heads true h e rest = cc (eqb-true b c h, rest e)
    heads false h e rest = cc

-- the library's test answers the same
pub same_pointwise : (l m : List ℕ) → pointwise eqb l m ≡ same_bytes l m
unfolding same_bytes
same_pointwise [] [] = refl
same_pointwise [] (c ∷ m) = refl
same_pointwise (b ∷ l) [] = refl
same_pointwise (b ∷ l) (c ∷ m) = rw (same_pointwise l m) (go (eqb b c))
  where
    go : (t : Bool) → (t && same_bytes l m) ≡ both t (same_bytes l m)
    go true = refl
    go false = refl
