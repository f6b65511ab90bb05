-- The four bytes are judged once all are there.
use mathlib.Core.Path.{sym, ◌∙◌}
use borrow.Author.Rules.{rules}
use Rattle.server.proofs.Header.{flags_part, flags_zeroes, flags_no_zeroes, flags_other}
use Rattle.server.proofs.handshake.judge_flags.Goals as goal

pub returns-then-k-lt4 : goal.returns-then-k-lt4
returns-then-k-lt4 c = flags_part _ _ (search rules) c.if-k-lt4.true

pub returns-then-flags-eq-NBD_FLAG_C_FIXED_NEWSTYLE : goal.returns-then-flags-eq-NBD_FLAG_C_FIXED_NEWSTYLE
returns-then-flags-eq-NBD_FLAG_C_FIXED_NEWSTYLE c = flags_zeroes _ _ (search rules) c.requires c.if-k-lt4.false (sym c.read-flags.ensures ∙ c.if-flags-eq-NBD_FLAG_C_FIXED_NEWSTYLE.true)

pub returns-then-flags : goal.returns-then-flags
returns-then-flags c = flags_no_zeroes _ _ (search rules) c.requires c.if-k-lt4.false (sym c.read-flags.ensures ∙ c.if-flags.true)

pub returns-else-flags : goal.returns-else-flags
returns-else-flags c = flags_other _ _ (search rules) c.requires c.if-k-lt4.false (λ z. c.if-flags-eq-NBD_FLAG_C_FIXED_NEWSTYLE.false (c.read-flags.ensures ∙ z)) (λ z. c.if-flags.false (c.read-flags.ensures ∙ z))
