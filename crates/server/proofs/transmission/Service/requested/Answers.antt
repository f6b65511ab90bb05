-- The magic is judged at the 4th byte, the rest at the 28th.
use mathlib.Core.Path.{sym, ◌∙◌}
use borrow.Author.Rules.{rules}
use Rattle.server.proofs.Header.{request_magic, request_other, request_part, request_whole}
use Rattle.server.proofs.transmission.Service.requested.Goals as goal

pub returns-then-read-eq-NBD_REQUEST_MAGIC : goal.returns-then-read-eq-NBD_REQUEST_MAGIC
returns-then-read-eq-NBD_REQUEST_MAGIC c = request_magic _ _ _ (search rules) c.if-k-eq4.true (sym c.read.ensures ∙ c.if-read-eq-NBD_REQUEST_MAGIC.true)

pub returns-then-k-eq4 : goal.returns-then-k-eq4
returns-then-k-eq4 c = request_other _ _ _ (search rules) c.if-k-eq4.true (λ z. c.if-read-eq-NBD_REQUEST_MAGIC.false (c.read.ensures ∙ z))

pub returns-then-k-lt28 : goal.returns-then-k-lt28
returns-then-k-lt28 c = request_part _ _ _ (search rules) c.if-k-eq4.false c.if-k-lt28.true

pub returns : goal.returns
returns c = c.begun.ensures _ ∙ rw (c.owed.ensures, c.from-r.ensures) (request_whole _ _ _ (search rules) c.if-k-lt28.false)
