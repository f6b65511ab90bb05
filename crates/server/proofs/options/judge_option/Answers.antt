-- The magic is judged at the 8th byte, the rest at the 16th.
use mathlib.Core.Path.{sym, ◌∙◌}
use borrow.Author.Rules.{rules}
use Rattle.server.proofs.Header.{option_magic, option_other, option_part, option_whole}
use Rattle.server.proofs.options.judge_option.Goals as goal

pub returns-then-same_bytes : goal.returns-then-same_bytes
returns-then-same_bytes c = option_magic _ _ _ _ (search rules) c.if-k-eq8.true (sym c.same_bytes.ensures ∙ c.if-same_bytes.true)

pub returns-then-k-eq8 : goal.returns-then-k-eq8
returns-then-k-eq8 c = option_other _ _ _ _ (search rules) c.if-k-eq8.true (sym c.same_bytes.ensures ∙ c.if-same_bytes.false)

pub returns-then-k-lt16 : goal.returns-then-k-lt16
returns-then-k-lt16 c = option_part _ _ _ _ (search rules) c.if-k-eq8.false c.if-k-lt16.true

pub returns : goal.returns
returns c = c.payload.ensures _ ∙ rw (c.read-len.ensures, c.read-option.ensures) (option_whole _ _ _ _ (search rules) c.requires c.if-k-lt16.false)
