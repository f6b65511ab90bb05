-- The client's contract keeps the counts in the input and the room.
use Rattle.client.proofs.Result.{within}
use Rattle.ask.proofs.talk.step.Goals as goal

pub returns : goal.returns
returns c = let d = c.step.ensures in record { driven = d; within_input = (within d).0; within_room = (within d).1 }
