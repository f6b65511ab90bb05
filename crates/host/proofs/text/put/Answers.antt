use Rattle.host.proofs.Left.{past, carried}
use Rattle.host.proofs.text.put.Goals as goal

pub returns-in-34-clause-rest : goal.returns-in-34-clause-rest
returns-in-34-clause-rest c = carried c.args.line.now _ c.quoted.result (past 1 c.args.line.now) c.quoted.ensures.rest
