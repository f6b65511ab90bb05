-- The client's steps.
--   Steps   a step is the library's, and its counts lie in the input and the room
use Rattle.std.specs.Prelude.{ℕ, ◌≤◌, List, length}
use Rattle.client.specs.Contract.{Drives}
use Rattle.client.specs.declared.state.Client.{Client}
use Rattle.client.specs.Answers.{Stepped}

pub record Steps (c : Client) (m input room : List ℕ) (r : Stepped) (m' room' : List ℕ) : Type 0 where
  pub driven : Drives c m input room r m' room'
  pub within_input : r.taken ≤ length input
  pub within_room : r.given ≤ length room
