-- The bytes are gathered behind those that are there, and judged when there are 16.
use mathlib.Core.Path.{refl}
use borrow.Author.Rules.{rules}
use Rattle.client.specs.Session.{Hearing, Calling, heard}
use Rattle.client.proofs.Header.{reply_part}
use Rattle.client.proofs.Runs.{gathered_leaf}
use Rattle.client.proofs.transmission.Exchange.hear.Goals as goal

pub returns : goal.returns
returns c =
    let x = c.args.self in
    λ m. gathered_leaf (λ h. Calling x.device x.call (Hearing h)) (heard x.device x.call) 16 (reply_part x.device x.call) (λ _. refl) c.requires (search rules) c.take.ensures.gathers c.take.ensures.judged.1
