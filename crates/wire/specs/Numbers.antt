-- Arithmetic of the client's calls.
--   clamped n   n, or the greatest 32-bit number (`clamp_to_u32`)
--   added p d   p plus a signed number, where there is an answer (`checked_add_i64`; in 01 a seek "is refused if it leaves 0..2^64-1 or is by -2^63")
--   twos x      the signed number that 64 bits stand for in two's complement, by their plain number x
use Rattle.std.specs.Prelude.{ℕ, suc, min, ◌+◌, ◌-◌, ◌^◌, eqb, ltb, leb, ℤ, pos, negsuc, Option, None, Some}
use Rattle.machine.specs.Choice.{pick}

abbrev pub clamped : ℕ → ℕ
clamped n = min n (2 ^ 32 - 1)

-- `negsuc n` is -(n + 1)
unfoldable pub added : ℕ → ℤ → Option ℕ
added p (pos n) = pick (ltb (p + n) (2 ^ 64)) (Some (p + n)) None
added p (negsuc n) = pick (eqb (suc n) (2 ^ 63)) None (pick (leb (suc n) p) (Some (p - suc n)) None)

abbrev pub twos : ℕ → ℤ
twos x = pick (ltb x (2 ^ 63)) (pos x) (negsuc (2 ^ 64 - 1 - x))
