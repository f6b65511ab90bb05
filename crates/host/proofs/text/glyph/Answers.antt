use Rattle.host.proofs.Left.{past, carried}
use Rattle.host.proofs.text.glyph.Goals as goal

pub returns-in-34 : goal.returns-in-34
returns-in-34 c = past 1 c.args.line.now

pub returns-in-len1-up : goal.returns-in-len1-up
returns-in-len1-up c = past 1 c.args.line.now

pub returns-in-92 : goal.returns-in-92
returns-in-92 c = carried c.args.line.now _ c.escaped.result (past 1 c.args.line.now) c.escaped.ensures
