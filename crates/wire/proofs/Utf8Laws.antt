-- The automaton of specs/Utf8.antt.
--   run_append          the cut at any place changes nothing
--   accepts             it accepts RFC 3629's texts and nothing else
--   accepts_cut         the same for a text in two parts
--   cut_inside_is_bad   a character's first part is no text
--   bad_stays           from Bad no byte leads away
--   bad_or_completed    from each other state some bytes lead to the end of a character
--   bad_for_ever        Bad: the bytes so far begin no text
use Prim.Native.Nat.{ℕ}
use mathlib.Core.Path.{◌≡◌, refl, ap}
use mathlib.Core.Bool.{true, false}
use mathlib.Core.List.{List, [], ◌∷◌, ◌++◌}
use mathlib.Core.Logic.{◌↔◌, ◌⊎◌, inl, inr}
use native.Mathlib.Omega.{arith}
use Rattle.wire.specs.Utf8.{lead, next, run, whole, valid}
use Rattle.wire.specs.Grammar.{Char, Octets, none, char}
use Rattle.wire.specs.declared.utf8.Utf8.{Utf8}
use Rattle.wire.specs.declared.utf8.Utf8.TheVariants.{Start, Tail1, Tail2, Tail3, AfterE0, AfterED, AfterF0, AfterF4, Bad}
use Rattle.wire.proofs.Between.{between_in}
use Rattle.wire.proofs.Utf8Ends.{Ends, complete, tail1, tail2, tail3, after_e0, after_ed, after_f0, after_f4, Rest, rest, rest_next}
use Rattle.wire.proofs.Utf8Leads.{char_lead}

pub run_append : (s : Utf8) (a b : List ℕ) → run s (a ++ b) ≡ run (run s a) b
run_append s [] b = refl
run_append s (x ∷ a) b = run_append (next s x) a b

-- ---- from the grammar to the automaton
ends_next : {s : Utf8} {b : ℕ} {e : List ℕ} → Ends s (b ∷ e) → Ends (next s b) e
unfolding next
ends_next (tail1 h p) = rw (between_in h) p
ends_next (tail2 h p) = rw (between_in h) p
ends_next (tail3 h p) = rw (between_in h) p
ends_next (after_e0 h p) = rw (between_in h) p
ends_next (after_ed h p) = rw (between_in h) p
ends_next (after_f0 h p) = rw (between_in h) p
ends_next (after_f4 h p) = rw (between_in h) p

ends_run : (s : Utf8) (e : List ℕ) → Ends s e → run s e ≡ Start
ends_run s [] p = ends_now p
  where
    ends_now : {t : Utf8} → Ends t [] → t ≡ Start
    ends_now complete = refl
ends_run s (b ∷ e) p = ends_run (next s b) e (ends_next p)

char_run : (c : List ℕ) → Char c → run Start c ≡ Start
unfolding next
char_run [] p = elim p [ ]
char_run (a ∷ e) p = ends_run (lead a) e (char_lead p)

octets_run : {l : List ℕ} → Octets l → run Start l ≡ Start
octets_run none = refl
octets_run (char {c} {l} p o) = rw (run_append Start c l, char_run c p) (octets_run o)

-- ---- from the automaton to the grammar
whole_start : (s : Utf8) → whole s ≡ true → s ≡ Start
whole_start Start h = refl
whole_start Tail1 h = cc
whole_start Tail2 h = cc
whole_start Tail3 h = cc
whole_start AfterE0 h = cc
whole_start AfterED h = cc
whole_start AfterF0 h = cc
whole_start AfterF4 h = cc
whole_start Bad h = cc

run_rest : (s : Utf8) (l : List ℕ) → whole (run s l) ≡ true → Rest s l
run_rest s [] h = rw (whole_start s h) (rest complete none)
run_rest s (b ∷ l) h = rest_next s b (run_rest (next s b) l h)

rest_octets : {l : List ℕ} → Rest Start l → Octets l
rest_octets (rest complete o) = o

-- ---- the two accept the same
pub accepts : (l : List ℕ) → (valid l ≡ true) ↔ Octets l
accepts l = (λ h. rest_octets (run_rest Start l h), λ o. ap whole (octets_run o))

pub accepts_cut : (a b : List ℕ) → (whole (run (run Start a) b) ≡ true) ↔ Octets (a ++ b)
accepts_cut a b = rw (← run_append Start a b) (accepts (a ++ b))

-- ---- a cut inside a character
ends_cut : (s : Utf8) (a : List ℕ) (y : ℕ) (b : List ℕ) → Ends s (a ++ y ∷ b) → whole (run s a) ≡ false
ends_cut s [] y b p = inside p
  where
    inside : {t : Utf8} {z : ℕ} {e : List ℕ} → Ends t (z ∷ e) → whole t ≡ false
    inside (tail1 h q) = refl
    inside (tail2 h q) = refl
    inside (tail3 h q) = refl
    inside (after_e0 h q) = refl
    inside (after_ed h q) = refl
    inside (after_f0 h q) = refl
    inside (after_f4 h q) = refl
ends_cut s (x ∷ a) y b p = ends_cut (next s x) a y b (ends_next p)

pub cut_inside_is_bad : (x : ℕ) (a : List ℕ) (y : ℕ) (b : List ℕ) → Char ((x ∷ a) ++ (y ∷ b)) → valid (x ∷ a) ≡ false
unfolding next
cut_inside_is_bad x a y b p = ends_cut (lead x) a y b (char_lead p)

-- ---- Bad
pub bad_stays : (l : List ℕ) → run Bad l ≡ Bad
unfolding next
bad_stays [] = refl
bad_stays (b ∷ l) = bad_stays l

pub bad_or_completed : (s : Utf8) → (s ≡ Bad) ⊎ ((l : List ℕ) × (run s l ≡ Start))
unfolding lead next
bad_or_completed Start = inr ([], refl)
bad_or_completed Tail1 = inr (0x80 ∷ [], refl)
bad_or_completed Tail2 = inr (0x80 ∷ 0x80 ∷ [], refl)
bad_or_completed Tail3 = inr (0x80 ∷ 0x80 ∷ 0x80 ∷ [], refl)
bad_or_completed AfterE0 = inr (0xA0 ∷ 0x80 ∷ [], refl)
bad_or_completed AfterED = inr (0x80 ∷ 0x80 ∷ [], refl)
bad_or_completed AfterF0 = inr (0x90 ∷ 0x80 ∷ 0x80 ∷ [], refl)
bad_or_completed AfterF4 = inr (0x80 ∷ 0x80 ∷ 0x80 ∷ [], refl)
bad_or_completed Bad = inl refl

pub bad_for_ever : (a : List ℕ) → (run Start a ≡ Bad) ↔ ((b : List ℕ) → Octets (a ++ b) → ⊥)
bad_for_ever a = (never, λ f. go f (bad_or_completed (run Start a)))
  where
    never : run Start a ≡ Bad → (b : List ℕ) → Octets (a ++ b) → ⊥
    never h b o = let z : ◌≡◌ {A = ℕ} 0 1 = cc (octets_run o, run_append Start a b, bad_stays b) in omega arith

    go : ((b : List ℕ) → Octets (a ++ b) → ⊥) → (run Start a ≡ Bad) ⊎ ((l : List ℕ) × (run (run Start a) l ≡ Start)) → run Start a ≡ Bad
    go f (inl h) = h
    go f (inr c) = absurd (f c.0 ((accepts_cut a c.0).0 (ap whole c.1)))
