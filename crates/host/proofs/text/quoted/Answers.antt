use Rattle.host.proofs.Left.{further}
use Rattle.host.proofs.text.quoted.Goals as goal

pub returns-in-None-clause-rest : goal.returns-in-None-clause-rest
returns-in-None-clause-rest c = further c.args.line.now c.loop-len.left.now c.in_ok-byte.rest.now c.loop-len.invariant (rw c.in_ok-byte.rest-is at c.in_ok-byte.ensures)

pub loop-len-preserved : goal.loop-len-preserved
loop-len-preserved c = further c.args.line.now c.loop-len.left.now c.in_ok-byte.rest.now c.loop-len.invariant (rw c.in_ok-byte.rest-is at c.in_ok-byte.ensures)

pub returns-in-None-default-clause-rest : goal.returns-in-None-default-clause-rest
returns-in-None-default-clause-rest c = further c.args.line.now c.loop-len.left.now c.in_ok-glyph.field-0.1.now c.loop-len.invariant c.in_ok-glyph.ensures
