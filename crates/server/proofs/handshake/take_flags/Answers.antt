-- Bytes are gathered up to the 4th, where they are judged.
use borrow.Author.Rules.{rules}
use borrow.Author.Tests.{lt-ltb}
use Rattle.server.proofs.Header.{flags_leaf}
use Rattle.server.proofs.handshake.take_flags.Goals as goal

pub returns : goal.returns
returns c = λ t m. flags_leaf t (search rules) c.requires.0 c.requires.1 (rw (lt-ltb _ _ c.requires.0) at c.take.ensures.gathers) (let j = c.take.ensures.judged in j.1)
