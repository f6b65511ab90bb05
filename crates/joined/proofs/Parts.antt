-- Moves in parts: what a machine does after a first part of its moves.
--   given_first    where it can give all its output first, the input comes after it
--   taken_first    where it can take some of its input first, the rest comes after it
--   taken_whole    where it can take all of it first, the output comes after it
--   owed_run       a list that is owed whole
--   talk_whole     a question up and an answer down, by what each machine does alone
use Prim.Native.Nat.{ℕ, suc, ◌+◌, ◌-◌}
use mathlib.Core.Path.{◌≡◌, ap, ◌∙◌}
use mathlib.Core.List.{List, [], ◌++◌}
use native.Mathlib.Omega.{arith}
use lib.ListN.{length, get_or}
use lib.Seq.{take-length}
use Rattle.machine.specs.Machine.{Turn, gives, On, on, Moves, still, by_give, by_take}
use Rattle.machine.specs.Wires.{Talk}
use Rattle.machine.proofs.Bulk.{sends}
use Rattle.machine.proofs.Talking.{exchange}

module _ {X : Type 0} {turn : X → Turn X} where
  pub given_first : {x y z : X} {is os : List ℕ} → Moves turn x [] os y → Moves turn x is os z → Moves turn y is [] z
  given_first still q = q
  given_first (by_give {y = y₁} p m) (by_give {y = y₂} q n) = let s : y₂ ≡ y₁ = cc in given_first m (rw s at n)
  given_first (by_give p m) (by_take q n) = absurd (let z : ◌≡◌ {A = ℕ} 0 1 = cc in omega arith)

  pub taken_first : {x y z : X} {is js os : List ℕ} → Moves turn x is [] y → Moves turn x (is ++ js) os z → Moves turn y js os z
  taken_first still q = q
  taken_first (by_take {k = k₁} {b = b} p m) (by_take {k = k₂} q n) = let s : k₂ b ≡ k₁ b = cc in taken_first m (rw s at n)
  taken_first (by_take p m) (by_give q n) = absurd (let z : ◌≡◌ {A = ℕ} 0 1 = cc in omega arith)

  pub taken_whole : {x y z : X} {is os : List ℕ} → Moves turn x is [] y → Moves turn x is os z → Moves turn y [] os z
  taken_whole still q = q
  taken_whole (by_take {k = k₁} {b = b} p m) (by_take {k = k₂} q n) = let s : k₂ b ≡ k₁ b = cc in taken_whole m (rw s at n)
  taken_whole (by_take p m) (by_give q n) = absurd (let z : ◌≡◌ {A = ℕ} 0 1 = cc in omega arith)

pub owed_run : {S : Type 0} (turn : On S → Turn (On S)) (f : ℕ → S) (l m : List ℕ) (k : ℕ) → k ≡ length l
    → ((left : ℕ) → turn (on (f (suc left)) m) ≡ gives (get_or l (length l - suc left) 0) (on (f left) m)) → Moves turn (on (f k) m) [] l (on (f 0) m)
owed_run turn f l m k e each =
    let at : (sent left : ℕ) → sent + suc left ≡ length l → turn (on (f (suc left)) m) ≡ gives (get_or l sent 0) (on (f left) m) =
    λ sent left h. each left ∙ (let i : length l - suc left ≡ sent = omega arith in ap (λ (j : ℕ). gives (get_or l j 0) (on (f left) m)) i) in
    rw (take-length l) at (sends turn (λ sent left. f left) l m (length l) at (omega arith) (length l) 0 k 0 (length l) (omega arith) (omega arith) (omega arith))

pub talk_whole : {C S : Type 0} {turnC : C → Turn C} {turnS : S → Turn S} {us ds : List ℕ} {c c₁ c' : C} {s s₁ s' : S}
    → Moves turnC c [] us c₁ → Moves turnC c ds us c' → Moves turnS s us [] s₁ → Moves turnS s us ds s' → Talk turnC turnS us ds c s c' s'
talk_whole p q r s = exchange p r (given_first p q) (taken_whole r s)
