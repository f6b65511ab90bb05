use Prim.Native.Nat.{ℕ, suc, ◌≤◌, ◌<◌, ◌+◌, ◌*◌, ◌/◌, ◌%◌}
use mathlib.Core.Path.{◌≡◌, refl, ap, sym, ◌∙◌}
use mathlib.Core.List.{List}
use native.Mathlib.Omega.{arith}
use native.Mathlib.Nat.{zero-add}
use native.Mathlib.Numerals.{add-one}
use lib.ListN.{length, set, get_or}
use lib.Seq.{paste, paste-suc}
use Rattle.io.specs.Digits.{hex_digit_ascii}
use Rattle.lines.specs.Hex.{hex_of}
use Rattle.lines.proofs.Spelled.{length_hex, hex_high, hex_low}
use Rattle.lines.proofs.spell.Goals as goal

-- one store
one : (d s : List ℕ) (j v : ℕ) → j < length d → j < length s → get_or s j 0 ≡ v → set (paste d 0 s j) j v ≡ paste d 0 s (suc j)
one d s j v h k e =
    rw (← e) (ap (λ (n : ℕ). set (paste d 0 s j) n (get_or s j 0)) (sym (zero-add j)) ∙ paste-suc d 0 s j 0 (omega arith) k)

-- a turn's two stores
one_more : (d bs : List ℕ) (i : ℕ) → i < length bs → 2 * length bs ≤ length d
    → set (set (paste d 0 (hex_of bs) (2 * i)) (2 * i) (hex_digit_ascii (get_or bs i 0 / 16))) (2 * i + 1) (hex_digit_ascii (get_or bs i 0 % 16))
    ≡ paste d 0 (hex_of bs) (2 * (i + 1))
one_more d bs i h k =
    let n : 2 * (i + 1) ≡ suc (suc (2 * i)) = omega arith in
    let two = length_hex bs in
    rw (
      n,
      one d (hex_of bs) (2 * i) (hex_digit_ascii (get_or bs i 0 / 16)) (omega arith) (omega arith) (hex_high bs i (2 * i) refl h),
      add-one (2 * i),
    )
    (one d (hex_of bs) (suc (2 * i)) (hex_digit_ascii (get_or bs i 0 % 16)) (omega arith) (omega arith) (hex_low bs i (suc (2 * i)) (omega arith) h))

pub loop-i-preserved : goal.loop-i-preserved
loop-i-preserved c =
    let a = c.args in
    let l = c.loop-i in
    (omega arith, rw (l.invariant.1, c.digit.ensures, c.digit-in-loop-i.ensures) (one_more a.out.now a.bytes.now l.i (omega arith) (omega arith)))
