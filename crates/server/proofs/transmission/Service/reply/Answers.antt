-- The reply is made anew, and its bytes are given from where the last step left off.
use mathlib.Core.Path.{refl}
use native.Mathlib.Omega.{arith}
use Rattle.wire.specs.Layouts.{simple_reply}
use Rattle.server.specs.Session.{replying}
use Rattle.server.proofs.Session.{owed_leaf, length_reply}
use Rattle.server.proofs.Left.{replying_more}
use Rattle.server.proofs.transmission.Service.reply.Goals as goal

pub returns : goal.returns
returns c =
    let e = c.args.self.export in
    let s = c.args.reply in
    λ t m.
    owed_leaf t (λ left. replying e s.error s.handle left s.off s.len) (simple_reply s.error s.handle) m (λ left. refl) c.simple_reply-bytes.ensures c.requires.0
    (rw (length_reply s.error s.handle) c.requires.1) (replying_more _ _ _ _ _ _ (λ z. omega (arith, c.requires.0))) c.give-n.ensures (rw c.at.ensures (c.replying.ensures _))
