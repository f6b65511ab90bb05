-- What each state of the automaton waits for. What the automaton lets through, byte for byte, the grammar has.
--   Ends s e     e completes a character from the state s
--   no_end       nothing completes Bad
--   lead_char    a first byte and what completes the state after it are a character
--   Rest s l     l completes a character from the state s, and a text follows it
--   rest_next    a byte and the rest of the state after it are a rest
use Prim.Native.Nat.{ℕ, ◌≤◌}
use mathlib.Core.Path.{◌≡◌}
use mathlib.Core.List.{List, [], ◌∷◌, ◌++◌}
use native.Mathlib.Decide.{dec_le}
use native.Mathlib.Omega.{arith}
use Rattle.machine.specs.Choice.{pick, between}
use Rattle.wire.specs.Utf8.{lead, next}
use Rattle.wire.specs.Grammar.{In, Tail, Char, one, two, three_E0, three_E1, three_ED, three_EE, four_F0, four_F1, four_F4, Octets, char}
use Rattle.wire.specs.declared.utf8.Utf8.{Utf8}
use Rattle.wire.specs.declared.utf8.Utf8.TheVariants.{Start, Tail1, Tail2, Tail3, AfterE0, AfterED, AfterF0, AfterF4, Bad}
use Rattle.wire.proofs.Between.{between_cases}

pub data Ends : Utf8 → List ℕ → Type 0 where
  complete : Ends Start []
  tail1 : {b : ℕ} {e : List ℕ} → Tail b → Ends Start e → Ends Tail1 (b ∷ e)
  tail2 : {b : ℕ} {e : List ℕ} → Tail b → Ends Tail1 e → Ends Tail2 (b ∷ e)
  tail3 : {b : ℕ} {e : List ℕ} → Tail b → Ends Tail2 e → Ends Tail3 (b ∷ e)
  after_e0 : {b : ℕ} {e : List ℕ} → In 0xA0 0xBF b → Ends Tail1 e → Ends AfterE0 (b ∷ e)
  after_ed : {b : ℕ} {e : List ℕ} → In 0x80 0x9F b → Ends Tail1 e → Ends AfterED (b ∷ e)
  after_f0 : {b : ℕ} {e : List ℕ} → In 0x90 0xBF b → Ends Tail2 e → Ends AfterF0 (b ∷ e)
  after_f4 : {b : ℕ} {e : List ℕ} → In 0x80 0x8F b → Ends Tail2 e → Ends AfterF4 (b ∷ e)

pub no_end : {C : Type 0} {e : List ℕ} → Ends Bad e → C
no_end p = elim p [ ]

-- ---- a character's first byte
module _ {a : ℕ} where
  char_one : {e : List ℕ} → In 0x00 0x7F a → Ends Start e → Char (a ∷ e)
  char_one h complete = one h

  char_two : {e : List ℕ} → In 0xC2 0xDF a → Ends Tail1 e → Char (a ∷ e)
  char_two h (tail1 p complete) = two h p

  char_E0 : {e : List ℕ} → In 0xE0 0xE0 a → Ends AfterE0 e → Char (a ∷ e)
  char_E0 h (after_e0 p (tail1 q complete)) = three_E0 h p q

  char_ED : {e : List ℕ} → In 0xED 0xED a → Ends AfterED e → Char (a ∷ e)
  char_ED h (after_ed p (tail1 q complete)) = three_ED h p q

  char_three : {e : List ℕ} → (a ≡ 0xED → ⊥) → In 0xE1 0xEF a → Ends Tail2 e → Char (a ∷ e)
  char_three n h (tail2 {b} p (tail1 {b = c} q complete)) = go (dec_le a 0xEC)
    where
      go : Dec (a ≤ 0xEC) → Char (a ∷ b ∷ c ∷ [])
      go (yes k) = three_E1 {a = a} (omega arith) p q
      go (no k) = three_EE {a = a} (omega arith) p q

  char_F0 : {e : List ℕ} → In 0xF0 0xF0 a → Ends AfterF0 e → Char (a ∷ e)
  char_F0 h (after_f0 p (tail2 q (tail1 r complete))) = four_F0 h p q r

  char_four : {e : List ℕ} → In 0xF1 0xF3 a → Ends Tail3 e → Char (a ∷ e)
  char_four h (tail3 p (tail2 q (tail1 r complete))) = four_F1 h p q r

  char_F4 : {e : List ℕ} → In 0xF4 0xF4 a → Ends AfterF4 e → Char (a ∷ e)
  char_F4 h (after_f4 p (tail2 q (tail1 r complete))) = four_F4 h p q r

pub lead_char : (a : ℕ) {e : List ℕ} → Ends (lead a) e → Char (a ∷ e)
unfolding lead
lead_char a {e} =
    at char_one λ _.
    at char_two λ _.
    at char_E0 λ _.
    at char_ED λ n.
    at (char_three λ e. n (omega arith)) λ _.
    at char_F0 λ _.
    at char_four λ _.
    at char_F4 λ _. no_end
  where
    at : {lo hi : ℕ} {x y : Utf8}
        → (In lo hi a → Ends x e → Char (a ∷ e))
        → ((In lo hi a → ⊥) → Ends y e → Char (a ∷ e))
        → Ends (pick (between lo hi a) x y) e
        → Char (a ∷ e)
    at {lo} {hi} = between_cases (λ s. Ends s e) lo hi a

-- ---- its other bytes
pub data Rest (s : Utf8) : List ℕ → Type 0 where
  rest : {e l : List ℕ} → Ends s e → Octets l → Rest s (e ++ l)

rest_tail : {lo hi : ℕ} {s t : Utf8} {b : ℕ} {l : List ℕ}
    → ((e : List ℕ) → In lo hi b → Ends t e → Ends s (b ∷ e))
    → Rest (pick (between lo hi b) t Bad) l
    → Rest s (b ∷ l)
rest_tail {lo} {hi} {b = b} rule (rest {e} p o) = rest (between_cases (λ s. Ends s e) lo hi b (rule e) (λ n. no_end) p) o

pub rest_next : (s : Utf8) (b : ℕ) {l : List ℕ} → Rest (next s b) l → Rest s (b ∷ l)
unfolding next
rest_next Start b (rest p o) = rest complete (char (lead_char b p) o)
rest_next Tail1 b r = rest_tail (λ e. tail1) r
rest_next Tail2 b r = rest_tail (λ e. tail2) r
rest_next Tail3 b r = rest_tail (λ e. tail3) r
rest_next AfterE0 b r = rest_tail (λ e. after_e0) r
rest_next AfterED b r = rest_tail (λ e. after_ed) r
rest_next AfterF0 b r = rest_tail (λ e. after_f0) r
rest_next AfterF4 b r = rest_tail (λ e. after_f4) r
rest_next Bad b (rest p o) = no_end p
