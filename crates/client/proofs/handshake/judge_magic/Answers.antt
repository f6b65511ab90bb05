-- Fewer than 8 bytes wait; 8 are compared with the string.
use mathlib.Core.Path.{sym, ◌∙◌}
use borrow.Author.Rules.{rules}
use Rattle.client.specs.Session.{Magic, Shaking, judge_magic}
use Rattle.client.proofs.Header.{magic_part, part_waits, magic_right, magic_wrong}
use Rattle.client.proofs.handshake.judge_magic.Goals as goal

pub returns-then-k-lt8 : goal.returns-then-k-lt8
returns-then-k-lt8 c =
    let a = c.args in
    part_waits (λ h. Shaking a.name (Magic h)) (judge_magic a.name) 8 (magic_part a.name) a.head a.k (search rules) c.if-k-lt8.true

pub returns-then-same_bytes : goal.returns-then-same_bytes
returns-then-same_bytes c =
    let a = c.args in
    magic_right a.name a.head a.k (search rules) c.if-k-lt8.false c.requires (sym c.same_bytes.ensures ∙ c.if-same_bytes.true)

pub returns-else-same_bytes : goal.returns-else-same_bytes
returns-else-same_bytes c =
    let a = c.args in
    magic_wrong a.name a.head a.k (search rules) c.if-k-lt8.false c.requires (sym c.same_bytes.ensures ∙ c.if-same_bytes.false)
