-- For contracts that only the crates above cite: a reader of the rules can leave it out.
--   Gathered   a header of which `have` bytes were there, with the bytes that came next, until there are `to`
--   Given      those of the last `left` bytes that the room has space for
--   Lasts Good turn x m   wherever moves lead from x with m lent, the place is good and as many bytes are lent
use Rattle.std.specs.Prelude.{ℕ, min, ◌+◌, ◌-◌, ◌≡◌, List, ◌++◌, length, take, drop}
use Rattle.machine.specs.Machine.{Turn, On, on, Moves}
use Rattle.std.proofs.Math.Seq.{paste}

pub record Gathered (head : List ℕ) (have to : ℕ) (input head' : List ℕ) (taken : ℕ) : Type 0 where
  pub least : taken ≡ min (to - have) (length input)
  pub bytes : take (have + taken) head' ≡ take have head ++ take taken input

pub record Given (bytes : List ℕ) (left : ℕ) (room : List ℕ) (n : ℕ) (room' : List ℕ) : Type 0 where
  pub least : n ≡ min left (length room)
  pub written : room' ≡ paste room 0 (drop (length bytes - left) bytes) n

abbrev pub Lasts : {P : Type 0} → (ℕ → P → Type 0) → (On P → Turn (On P)) → P → List ℕ → Type 0
Lasts {P} Good turn x m = (y : P) (m' is os : List ℕ) → Moves turn (on x m) is os (on y m') → Good (length m') y × (length m' ≡ length m)
