-- Document 000's `from_utf8` takes the texts that the port's automaton takes.
--   same_text   for any bytes
use Prim.Native.Nat.{ℕ, ◌≤◌, ◌<◌}
use mathlib.Core.Path.{◌≡◌, refl}
use mathlib.Core.Bool.{Bool, true, false}
use mathlib.Core.Logic.Dec
use mathlib.Core.List.{List, [], ◌∷◌}
use Rattle.std.specs.Prelude.{Option, None, Some}
use native.Mathlib.Decide.{dec_le}
use native.Mathlib.Omega.{arith}
use Rattle.machine.specs.Choice.{pick, both, between}
use Rattle.wire.specs.Grammar.{In}
use Rattle.wire.specs.Utf8.{next, lead, run, whole, valid}
use Rattle.wire.specs.declared.utf8.Utf8.{Utf8}
use Rattle.wire.specs.declared.utf8.Utf8.TheVariants.{Start, Tail1, Tail2, Tail3, AfterE0, AfterED, AfterF0, AfterF4, Bad}
use Rattle.wire.proofs.Between.{between_in, between_out}
use Rattle.wire.proofs.Utf8Leads.{lead_one, lead_two, lead_three, lead_four, lead_E0, lead_ED, lead_F0, lead_F4, lead_bad}
use Rattle.original.specs.Leaves.{tail, behind, begins, octets, from_utf8}

-- the bytes that a state of the automaton waits for
abbrev pending : Utf8 → Option (List (ℕ → Bool))
pending Start = Some []
pending Tail1 = Some (tail ∷ [])
pending Tail2 = Some (tail ∷ tail ∷ [])
pending Tail3 = Some (tail ∷ tail ∷ tail ∷ [])
pending AfterE0 = Some (between 0xA0 0xBF ∷ tail ∷ [])
pending AfterED = Some (between 0x80 0x9F ∷ tail ∷ [])
pending AfterF0 = Some (between 0x90 0xBF ∷ tail ∷ tail ∷ [])
pending AfterF4 = Some (between 0x80 0x8F ∷ tail ∷ tail ∷ [])
pending Bad = None

-- ---- a first byte
ranged : {A : Type 0} (P : A → Type 0) (lo hi b : ℕ) {x y : A} → (In lo hi b → P x) → ((lo ≤ b → hi < b) → P y) → P (pick (between lo hi b) x y)
ranged P lo hi b {x} {y} f g = go (Dec.and (dec_le lo b) (dec_le b hi))
  where
    go : Dec (In lo hi b) → P (pick (between lo hi b) x y)
    go (yes h) = rw (between_in h) (f h)
    go (no n) = rw (between_out lo hi b n) (g (λ h. past (dec_le b hi) (λ k. n (h, k))))
      where
        past : Dec (b ≤ hi) → (b ≤ hi → ⊥) → hi < b
        past (yes k) n = absurd (n k)
        past (no k) n = omega arith

same_lead : (a : ℕ) → behind a ≡ pending (lead a)
unfolding behind
same_lead a =
    let P : Option (List (ℕ → Bool)) → Type 0 = λ o. o ≡ pending (lead a) in
    ranged P 0x00 0x7F a (λ h. rw (lead_one h))
    λ n1.
    ranged P 0xC2 0xDF a (λ h. rw (lead_two h))
    λ n2.
    ranged P 0xE0 0xE0 a (λ h. rw (lead_E0 h))
    λ n3.
    ranged P 0xE1 0xEC a (λ h. rw (lead_three {a = a} (omega arith) (omega arith)))
    λ n4.
    ranged P 0xED 0xED a (λ h. rw (lead_ED h))
    λ n5.
    ranged P 0xEE 0xEF a (λ h. rw (lead_three {a = a} (omega arith) (omega arith)))
    λ n6.
    ranged P 0xF0 0xF0 a (λ h. rw (lead_F0 h))
    λ n7.
    ranged P 0xF1 0xF3 a (λ h. rw (lead_four h))
    λ n8.
    ranged P 0xF4 0xF4 a (λ h. rw (lead_F4 h))
    λ n9.
    rw (lead_bad a (λ h. omega (arith, n1 h.0)) (λ h. omega (arith, n9 (n8 (n7 (n6 (n5 (n4 (n3 (n2 h.0))))))))))

-- ---- a text, or what is left of one
abbrev Same : Utf8 → List ℕ → Type 0
Same s l = begins (pending s) (λ follow. octets follow l) ≡ whole (run s l)

follows : (l : List ℕ) → ((s : Utf8) → Same s l) → (b : Bool) (s : Utf8) → both b (begins (pending s) (λ follow. octets follow l)) ≡ whole (run (pick b s Bad) l)
follows l rest true s = rest s
follows l rest false s = rest Bad

same_state : (l : List ℕ) (s : Utf8) → Same s l
unfolding octets next
same_state [] Start = refl
same_state [] Tail1 = refl
same_state [] Tail2 = refl
same_state [] Tail3 = refl
same_state [] AfterE0 = refl
same_state [] AfterED = refl
same_state [] AfterF0 = refl
same_state [] AfterF4 = refl
same_state [] Bad = refl
same_state (b ∷ l) Start = rw (same_lead b) (same_state l (lead b))
same_state (b ∷ l) Tail1 = follows l (same_state l) (between 0x80 0xBF b) Start
same_state (b ∷ l) Tail2 = follows l (same_state l) (between 0x80 0xBF b) Tail1
same_state (b ∷ l) Tail3 = follows l (same_state l) (between 0x80 0xBF b) Tail2
same_state (b ∷ l) AfterE0 = follows l (same_state l) (between 0xA0 0xBF b) Tail1
same_state (b ∷ l) AfterED = follows l (same_state l) (between 0x80 0x9F b) Tail1
same_state (b ∷ l) AfterF0 = follows l (same_state l) (between 0x90 0xBF b) Tail2
same_state (b ∷ l) AfterF4 = follows l (same_state l) (between 0x80 0x8F b) Tail2
same_state (b ∷ l) Bad = same_state l Bad

pub same_text : (l : List ℕ) → from_utf8 l ≡ valid l
same_text l = same_state l Start
