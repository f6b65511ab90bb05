-- Numbers on the wire, big-endian, at any width (01: "All numbers are big-endian").
--   be n x       the n bytes of x, the highest first
--   number bs    the number that the bytes stand for
--   field l i n  the number in the n bytes of l from the place i on
--   Bytes bs     each is below 256
--   same_bytes    whether two lists are the same bytes
use Rattle.std.specs.Prelude.{ℕ, zero, suc, ◌+◌, ◌*◌, ◌/◌, ◌%◌, ◌^◌, ◌<◌, Bool, true, false, List, [], ◌∷◌, eqb, length, take, drop}
use Rattle.machine.specs.Choice.{both}

unfoldable pub be : ℕ → ℕ → List ℕ
be zero x = []
be (suc n) x = x / 256 ^ n % 256 ∷ be n x

unfoldable pub number : List ℕ → ℕ
number [] = 0
number (b ∷ bs) = b * 256 ^ length bs + number bs

abbrev pub field : List ℕ → ℕ → ℕ → ℕ
field l i n = number (take n (drop i l))

abbrev pub Bytes : List ℕ → Type 0
Bytes [] = Unit {0}
Bytes (b ∷ bs) = (b < 256) × Bytes bs

unfoldable pub same_bytes : List ℕ → List ℕ → Bool
same_bytes [] [] = true
same_bytes [] (c ∷ m) = false
same_bytes (b ∷ l) [] = false
same_bytes (b ∷ l) (c ∷ m) = both (eqb b c) (same_bytes l m)
