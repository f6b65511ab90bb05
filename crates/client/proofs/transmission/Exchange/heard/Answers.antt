-- Fewer than 16 bytes wait; 16 are the whole array, which is judged.
use mathlib.Core.Path.{◌∙◌}
use borrow.Author.Rules.{rules}
use Rattle.client.specs.Session.{Hearing, Calling, heard}
use Rattle.client.proofs.Header.{reply_part, part_waits, reply_whole}
use Rattle.client.proofs.transmission.Exchange.heard.Goals as goal

pub returns-then-k-lt16 : goal.returns-then-k-lt16
returns-then-k-lt16 c =
    let a = c.args in
    let x = a.self in
    c.calling.ensures a.bytes ∙ part_waits (λ h. Calling x.device x.call (Hearing h)) (heard x.device x.call) 16 (reply_part x.device x.call) a.bytes a.k (search rules) c.if-k-lt16.true

pub returns-else-k-lt16 : goal.returns-else-k-lt16
returns-else-k-lt16 c =
    let a = c.args in
    c.replied.ensures a.bytes ∙ reply_whole a.self.device a.self.call a.bytes a.k (search rules) c.if-k-lt16.false
