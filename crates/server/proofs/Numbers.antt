-- 01's number of each answer.
--   numbered   of a step: what its outcome tells is what its place has
--   closing    of the end of input: what it answers has the number that it must have
use mathlib.Core.Path.{◌≡◌, refl, ap, ◌∙◌}
use mathlib.Core.Bool.{Bool, true, false}
use Rattle.std.specs.Prelude.{Some}
use Rattle.machine.specs.Choice.{pick}
use Rattle.server.specs.Session.{State, Shaking, Serving, Over}
use Rattle.server.specs.View.{view}
use Rattle.server.specs.Ranges.{in_range}
use Rattle.server.specs.Contract.{number_of, outcome_of, number_at, owes_output, cut_off, ended_at, end_of_input, end_number_at, end_number, Closes}
use Rattle.server.specs.declared.state.Server.{Server}
use Rattle.server.specs.Answers.{InputEnded}
use Rattle.server.specs.declared.state.Outcome.TheVariants.{Refused}

pub numbered : (x : State) → number_of (outcome_of x) ≡ number_at x
numbered (Shaking p) = refl
numbered (Serving e p) = refl
numbered (Over n) = refl

cut_number : (s : Server) (owed : Bool) → number_of (cut_off s owed).outcome ≡ Some (pick owed 28 12)
cut_number s true = refl
cut_number s false = refl

closed_number : (s : Server) (x : State) → number_of (ended_at s x).outcome ≡ Some (end_number_at x)
closed_number s (Shaking p) = cut_number s (owes_output (Shaking p))
closed_number s (Serving e p) = cut_number s (owes_output (Serving e p))
closed_number s (Over n) = refl

ended_number : (s : Server) → number_of (end_of_input s).outcome ≡ Some (end_number s)
ended_number s = go (in_range s)
  where
    go : (b : Bool) → number_of (pick b (ended_at s (view s)) (record { state = s; outcome = Refused 27 })).outcome ≡ Some (pick b (end_number_at (view s)) 27)
    go true = closed_number s (view s)
    go false = refl

pub closing : {s : Server} {r : InputEnded} → r ≡ end_of_input s → Closes s r
closing {s} e = record { result = e; number = ap (λ (c : InputEnded). number_of c.outcome) e ∙ ended_number s }
