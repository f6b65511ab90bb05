-- Whether all are 0 is a fold of the bytes, and the code folds as many as there are.
use mathlib.Core.Path.{◌≡◌, ◌∙◌}
use lib.ListN.{take}
use Rattle.machine.specs.Choice.{both}
use Rattle.machine.specs.Parts.{blank}
use Rattle.client.proofs.Runs.{filler_leaf}
use Rattle.client.proofs.handshake.Shake.take_filler.Goals as goal
use Rattle.client.proofs.handshake.Shake.take_filler.Goals.{then-f, else-f}

still : (c : goal.After-from_parts) → c.if-f.after ≡ both c.args.f.clean (blank (take c.min-n.result c.args.input.now))
still c = elim c.if-f.branch [ then-f w ↦ w.after-is ∙ w.blank.ensures ∙ rw w.if-f.true | else-f w ↦ w.after-is ∙ rw w.if-f.false ]

pub returns : goal.returns
returns c =
    let a = c.args in
    λ m. filler_leaf a.self.name a.f.size a.f.flags a.f.clean c.requires c.min-n.ensures (rw c.from_parts.ensures (rw (still c) at (c.filler.ensures a.self.head)))
