-- The bytes are copied to the place where the data so far ends, which is a run of stores.
use Prim.Native.Nat.{ℕ, ◌-◌}
use mathlib.Core.Path.{ap, ◌∙◌}
use lib.Seq.{paste}
use Rattle.client.proofs.Runs.{fill_leaf}
use Rattle.client.proofs.transmission.Exchange.fill.Goals as goal

pub returns : goal.returns
returns c =
    let a = c.args in
    let p = c.requires in
    let n = c.min-n.result in
    let place = ap (λ (all : ℕ). paste a.lent.now (all - a.left) a.input.now n) c.wanted-all.ensures in
    fill_leaf a.self.device a.self.call p.1.0 p.1.1 p.0 c.min-n.ensures (rw c.from_parts.ensures (c.filling.ensures a.self.head)) (c.copy_part.ensures ∙ place)
