-- The 20 bytes stand in the array, and giving the last of them is a run that is owed.
use mathlib.Core.Path.{refl}
use native.Mathlib.Omega.{arith}
use Rattle.client.specs.Session.{hello, greeting}
use Rattle.client.proofs.Left.{greeting_more}
use Rattle.client.proofs.Runs.{owed_leaf, length_hello}
use Rattle.client.proofs.handshake.Shake.send_hello.Goals as goal

pub returns : goal.returns
returns c =
    let a = c.args in
    let p = c.requires in
    λ m. owed_leaf (greeting a.self.name) (hello a.self.name) m (λ _. refl) c.hello.ensures p.1.0 (rw (length_hello a.self.name) p.1.1) (greeting_more a.self.name a.left (omega arith)) c.give-n.ensures (rw c.from_parts.ensures (c.greeting.ensures a.self.head))
