-- What is left of a line.
--   past      a line ends with its bytes behind the first k
--   further   what is behind what is left is behind the line
--   carried   so is what an answer gives
use Rattle.std.proofs.Common.{ℕ, ◌-◌, List, ◌++◌, length, take, drop, ap, ◌∙◌, append_assoc}
use Rattle.std.proofs.lemmas.List.{take-append-drop, take_rest}
use Rattle.std.specs.Prelude.{Result, Ok, Err, IfOk}
use Rattle.std.specs.Borrow.{Bor}
use Rattle.host.specs.Text.{Behind}

pub past : (k : ℕ) (line : List ℕ) → Behind line (take (length line - k) (drop k line))
past k line = (take k line, ap (λ (r : List ℕ). take k line ++ r) (take_rest line k) ∙ take-append-drop k line)

pub further : (line left rest : List ℕ) → Behind line left → Behind left rest → Behind line rest
further line left rest p q = (p.0 ++ q.0, append_assoc p.0 q.0 rest ∙ ap (λ (r : List ℕ). p.0 ++ r) q.1 ∙ p.1)

pub carried : {A E : Type 0} (line left : List ℕ) (r : Result (A × Bor (List ℕ)) E) → Behind line left → IfOk r (λ (f : A × Bor (List ℕ)). Behind left f.1.now) → IfOk r (λ (f : A × Bor (List ℕ)). Behind line f.1.now)
carried line left (Ok f) p q = further line left f.1.now p q
carried line left (Err e) p q = tt
