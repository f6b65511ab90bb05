-- Fewer than 8 bytes wait; 8 are compared with the two strings in turn.
use mathlib.Core.Path.{sym, ◌∙◌}
use borrow.Author.Rules.{rules}
use Rattle.client.specs.Session.{Style, Shaking, judge_style}
use Rattle.client.proofs.Header.{style_part, part_waits, style_new, style_old, style_other}
use Rattle.client.proofs.handshake.judge_style.Goals as goal

pub returns-then-k-lt8 : goal.returns-then-k-lt8
returns-then-k-lt8 c =
    let a = c.args in
    part_waits (λ h. Shaking a.name (Style h)) (judge_style a.name) 8 (style_part a.name) a.head a.k (search rules) c.if-k-lt8.true

pub returns-then-same_bytes : goal.returns-then-same_bytes
returns-then-same_bytes c =
    let a = c.args in
    style_new a.name a.head a.k (search rules) c.if-k-lt8.false c.requires (sym c.same_bytes.ensures ∙ c.if-same_bytes.true)

pub returns-then-same_bytes-2 : goal.returns-then-same_bytes-2
returns-then-same_bytes-2 c =
    let a = c.args in
    c.oldstyle.ensures a.head ∙ style_old a.name a.head a.k (search rules) c.if-k-lt8.false c.requires (sym c.same_bytes.ensures ∙ c.if-same_bytes.false) (sym c.same_bytes-2.ensures ∙ c.if-same_bytes-2.true)

pub returns-else-same_bytes-2 : goal.returns-else-same_bytes-2
returns-else-same_bytes-2 c =
    let a = c.args in
    style_other a.name a.head a.k (search rules) c.if-k-lt8.false c.requires (sym c.same_bytes.ensures ∙ c.if-same_bytes.false) (sym c.same_bytes-2.ensures ∙ c.if-same_bytes-2.false)
