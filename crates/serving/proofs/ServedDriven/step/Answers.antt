-- What is given lies in the room.
use Rattle.server.proofs.Result.{within}
use Rattle.serving.proofs.ServedDriven.step.Goals as goal

pub returns : goal.returns
returns c = (within c.step-r.ensures).1
