-- A step without input takes nothing, so it stores nothing.
use Rattle.server.proofs.Result.{within}
use Rattle.serve.proofs.Stored.{gives_nothing}
use Rattle.serve.proofs.stepping.give.Goals as goal

pub returns : goal.returns
returns c = let s = c.step.ensures in record { step = s; within_room = (within s).1; same_image = gives_nothing s }
