-- What a step's outcome tells is what its place has.
--   numbered   01's number
--   valued     01's values
use mathlib.Core.Path.{◌≡◌, refl}
use Rattle.client.specs.Session.{State, Blank, Shaking, Ready, Calling, Closed, Over}
use Rattle.client.specs.Contract.{number_of, values_of, outcome_of, number_at, values_at}

pub numbered : (x : State) → number_of (outcome_of x) ≡ number_at x
numbered Blank = refl
numbered (Shaking n p) = refl
numbered (Ready d) = refl
numbered (Calling d c p) = refl
numbered (Closed o d) = refl
numbered (Over n) = refl

pub valued : (x : State) → values_of (outcome_of x) ≡ values_at x
valued Blank = refl
valued (Shaking n p) = refl
valued (Ready d) = refl
valued (Calling d c p) = refl
valued (Closed o d) = refl
valued (Over n) = refl
