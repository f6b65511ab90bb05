-- The server's machine does over an input what a result says.
--   Meets        from x, with the table t
--   meets_over   moves that come to an end
--   meets_cut    all of the input is taken, and a byte more is wanted
use Prim.Native.Nat.{ℕ}
use mathlib.Core.Path.{◌≡◌, refl, ap}
use mathlib.Core.List.{List, [], ◌++◌}
use Rattle.machine.specs.Machine.{On, on, takes, Moves}
use Rattle.server.specs.Session.{State, Over, turn}
use Rattle.original.specs.Connection.{Outcome, ended, Served}
use Rattle.original.specs.Server.{end_of}
use Rattle.original.proofs.Reaches.{Reaches, reaches_rest, reaches_cut}

abbrev pub outcome_of : State → Outcome
outcome_of y = ended (end_of y)

abbrev pub Meets : List ℕ → On State → List ℕ → Served → Type 0
Meets t x input r = Reaches (turn t) outcome_of x input r.left r.sent r.device r.outcome

pub meets_over : (t : List ℕ) {is os input left m : List ℕ} {x : On State} {n : ℕ} → Moves (turn t) x is os (on (Over n) m) → input ≡ is ++ left
    → Reaches (turn t) outcome_of x input left os m (ended n)
meets_over t {n = n} p e = reaches_rest (Over n) refl p e

pub meets_cut : (t : List ℕ) {input m : List ℕ} {x : On State} {y : State} {k : ℕ → On State} → Moves (turn t) x input [] (on y m) → turn t (on y m) ≡ takes k → end_of y ≡ 12
    → Reaches (turn t) outcome_of x input [] [] m (ended 12)
meets_cut t {y = y} p e n = reaches_cut y p e (ap ended n)
