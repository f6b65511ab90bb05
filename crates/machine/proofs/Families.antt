-- Families of states that stand for a run of bytes: f off left, from the place off on, with so many bytes left.
--   Sends     the bytes of a list are given
--   Stores    bytes are taken into the store
--   Drops     bytes are taken and dropped
--   Folds     bytes are taken, and each changes a value that the state holds
--   Gathers   bytes are taken and gathered in the state, and judged; Quiet: up to there none is judged
use Prim.Native.Nat.{ℕ, suc, ◌+◌, ◌<◌}
use mathlib.Core.Path.{◌≡◌}
use mathlib.Core.List.{List, [], ◌∷◌, ◌++◌}
use lib.ListN.{length, get_or, set}
use Rattle.machine.specs.Machine.{On, on, Turn, gives, takes}

module _ {S : Type 0} (turn : On S → Turn (On S)) where
  -- the bytes of l up to the place e are given
  abbrev pub Sends : (ℕ → ℕ → S) → List ℕ → ℕ → List ℕ → Type 0
  Sends f l e m = (off left : ℕ) → off + suc left ≡ e → turn (on (f off (suc left)) m) ≡ gives (get_or l off 0) (on (f (suc off) left) m)

  -- bytes are taken into the store
  abbrev pub Stores : (ℕ → ℕ → S) → Type 0
  Stores f = (off left : ℕ) (m : List ℕ) → turn (on (f off (suc left)) m) ≡ takes (λ b. on (f (suc off) left) (set m off b))

  -- bytes are taken and dropped
  abbrev pub Drops : (ℕ → S) → Type 0
  Drops f = (left : ℕ) (m : List ℕ) → turn (on (f (suc left)) m) ≡ takes (λ b. on (f left) m)

  -- bytes are taken, and each changes the value v: for bytes that are looked at and not stored. The value may hold the place too
  abbrev pub Folds : {A : Type 0} → (A → ℕ → S) → (A → ℕ → A) → List ℕ → Type 0
  Folds {A} f step m = (v : A) (left : ℕ) → turn (on (f v (suc left)) m) ≡ takes (λ b. on (f (step v b) left) m)

  -- bytes are gathered: g where they wait for more, f where they were judged
  abbrev pub Gathers : (List ℕ → S) → (List ℕ → S) → List ℕ → Type 0
  Gathers g f m = (got : List ℕ) → turn (on (g got) m) ≡ takes (λ b. on (f (got ++ b ∷ [])) m)

  -- with more than lo bytes and fewer than `to`, none is judged
  abbrev pub Quiet : (List ℕ → S) → (List ℕ → S) → ℕ → ℕ → Type 0
  Quiet g f lo to = (h : List ℕ) → lo < length h → length h < to → f h ≡ g h
