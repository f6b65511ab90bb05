-- The name is what is lent, and giving its last bytes is a run that is owed.
use mathlib.Core.Path.{refl}
use native.Mathlib.Omega.{arith}
use Rattle.client.specs.Session.{naming}
use Rattle.client.proofs.Left.{naming_more}
use Rattle.client.proofs.Runs.{owed_leaf}
use Rattle.client.proofs.handshake.Shake.send_name.Goals as goal

pub returns : goal.returns
returns c =
    let a = c.args in
    let p = c.requires in
    owed_leaf (naming a.self.name) a.lent.now a.lent.now (λ _. refl) refl p.1.0 (omega arith) (naming_more a.self.name a.left (omega arith)) c.give-n.ensures (rw c.from_parts.ensures (c.naming.ensures a.self.head))
