-- The bytes are gathered behind those that are there, and judged when there are 8.
use mathlib.Core.Path.{refl}
use borrow.Author.Rules.{rules}
use Rattle.client.specs.Session.{Style, Shaking, judge_style}
use Rattle.client.proofs.Header.{style_part}
use Rattle.client.proofs.Runs.{gathered_leaf}
use Rattle.client.proofs.handshake.Shake.take_style.Goals as goal

pub returns : goal.returns
returns c =
    let a = c.args in
    λ m. gathered_leaf (λ h. Shaking a.self.name (Style h)) (judge_style a.self.name) 8 (style_part a.self.name) (λ _. refl) c.requires (search rules) c.take.ensures.gathers c.take.ensures.judged.1
