-- Bytes are gathered up to the next place where they are judged.
use borrow.Author.Rules.{rules}
use Rattle.server.proofs.Header.{request_leaf}
use Rattle.server.proofs.transmission.Service.take_header.Goals as goal

pub returns : goal.returns
returns c = λ t m. request_leaf t c.args.self.export (search rules) c.requires.0 c.requires.1 c.take.ensures.gathers c.take.ensures.judged.1
