-- What is given lies in the room.
use Rattle.client.proofs.Result.{within}
use Rattle.calling.proofs.CallingDriven.step.Goals as goal

pub returns : goal.returns
returns c = (within c.step-r.ensures).1
