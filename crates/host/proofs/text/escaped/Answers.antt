use Rattle.host.proofs.Left.{past}
use Rattle.host.proofs.text.escaped.Goals as goal

pub returns-in_default-hex_byte : goal.returns-in_default-hex_byte
returns-in_default-hex_byte c = past 3 c.args.line.now

pub returns-in-34 : goal.returns-in-34
returns-in-34 c = past 1 c.args.line.now
