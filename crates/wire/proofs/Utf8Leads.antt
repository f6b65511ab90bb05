-- The state after a character's first byte, by its range.
--   lead_one, lead_two, lead_three, lead_four   leads of so many bytes whose tails are all 80..BF
--   lead_E0, lead_ED, lead_F0, lead_F4          leads whose first tail has a range of its own
--   lead_bad                                    no lead
--   char_lead                                   the other bytes of a character complete the state after its first
use Prim.Native.Nat.{ℕ}
use mathlib.Core.Path.{◌≡◌}
use mathlib.Core.List.{List, ◌∷◌}
use native.Mathlib.Omega.{arith}
use Rattle.wire.specs.Utf8.{lead}
use Rattle.wire.specs.Grammar.{In, Char, one, two, three_E0, three_E1, three_ED, three_EE, four_F0, four_F1, four_F4}
use Rattle.wire.specs.declared.utf8.Utf8.TheVariants.{Start, Tail1, Tail2, Tail3, AfterE0, AfterED, AfterF0, AfterF4, Bad}
use Rattle.wire.proofs.Between.{between_in, between_out}
use Rattle.wire.proofs.Utf8Ends.{Ends, complete, tail1, tail2, tail3, after_e0, after_ed, after_f0, after_f4}

pub lead_one : {a : ℕ} → In 0x00 0x7F a → lead a ≡ Start
unfolding lead
lead_one h = rw (between_in h)

pub lead_two : {a : ℕ} → In 0xC2 0xDF a → lead a ≡ Tail1
unfolding lead
lead_two {a} h = rw (between_out 0x00 0x7F a (omega arith), between_in h)

pub lead_E0 : {a : ℕ} → In 0xE0 0xE0 a → lead a ≡ AfterE0
unfolding lead
lead_E0 {a} h = let e : a ≡ 0xE0 = omega arith in rw e

pub lead_ED : {a : ℕ} → In 0xED 0xED a → lead a ≡ AfterED
unfolding lead
lead_ED {a} h = let e : a ≡ 0xED = omega arith in rw e

pub lead_three : {a : ℕ} → In 0xE1 0xEF a → (a ≡ 0xED → ⊥) → lead a ≡ Tail2
unfolding lead
lead_three {a} h n =
    rw (
      between_out 0x00 0x7F a (omega arith),
      between_out 0xC2 0xDF a (omega arith),
      between_out 0xE0 0xE0 a (omega arith),
      between_out 0xED 0xED a (λ k. n (omega arith)),
      between_in h,
    )

pub lead_F0 : {a : ℕ} → In 0xF0 0xF0 a → lead a ≡ AfterF0
unfolding lead
lead_F0 {a} h = let e : a ≡ 0xF0 = omega arith in rw e

pub lead_four : {a : ℕ} → In 0xF1 0xF3 a → lead a ≡ Tail3
unfolding lead
lead_four {a} h =
    rw (
      between_out 0x00 0x7F a (omega arith),
      between_out 0xC2 0xDF a (omega arith),
      between_out 0xE0 0xE0 a (omega arith),
      between_out 0xED 0xED a (omega arith),
      between_out 0xE1 0xEF a (omega arith),
      between_out 0xF0 0xF0 a (omega arith),
      between_in h,
    )

pub lead_F4 : {a : ℕ} → In 0xF4 0xF4 a → lead a ≡ AfterF4
unfolding lead
lead_F4 {a} h = let e : a ≡ 0xF4 = omega arith in rw e

pub lead_bad : (a : ℕ) → (In 0x00 0x7F a → ⊥) → (In 0xC2 0xF4 a → ⊥) → lead a ≡ Bad
unfolding lead
lead_bad a n m =
    rw (
      between_out 0x00 0x7F a n,
      between_out 0xC2 0xDF a (λ k. m (omega arith)),
      between_out 0xE0 0xE0 a (λ k. m (omega arith)),
      between_out 0xED 0xED a (λ k. m (omega arith)),
      between_out 0xE1 0xEF a (λ k. m (omega arith)),
      between_out 0xF0 0xF0 a (λ k. m (omega arith)),
      between_out 0xF1 0xF3 a (λ k. m (omega arith)),
      between_out 0xF4 0xF4 a (λ k. m (omega arith)),
    )

pub char_lead : {a : ℕ} {e : List ℕ} → Char (a ∷ e) → Ends (lead a) e
char_lead (one h) = rw (lead_one h) complete
char_lead (two h p) = rw (lead_two h) (tail1 p complete)
char_lead (three_E0 h p q) = rw (lead_E0 h) (after_e0 p (tail1 q complete))
char_lead (three_E1 {a} h p q) = rw (lead_three {a = a} (omega arith) (omega arith)) (tail2 p (tail1 q complete))
char_lead (three_ED h p q) = rw (lead_ED h) (after_ed p (tail1 q complete))
char_lead (three_EE {a} h p q) = rw (lead_three {a = a} (omega arith) (omega arith)) (tail2 p (tail1 q complete))
char_lead (four_F0 h p q r) = rw (lead_F0 h) (after_f0 p (tail2 q (tail1 r complete)))
char_lead (four_F1 h p q r) = rw (lead_four h) (tail3 p (tail2 q (tail1 r complete)))
char_lead (four_F4 h p q r) = rw (lead_F4 h) (after_f4 p (tail2 q (tail1 r complete)))
