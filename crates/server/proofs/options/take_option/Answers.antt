-- Bytes are gathered up to the next place where they are judged.
use borrow.Author.Rules.{rules}
use Rattle.server.proofs.Header.{option_leaf}
use Rattle.server.proofs.options.take_option.Goals as goal

pub returns : goal.returns
returns c = λ m. option_leaf _ _ (search rules) c.requires.0 c.requires.1 c.take.ensures.gathers c.take.ensures.judged.1
