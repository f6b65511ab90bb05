-- The payload is the first bytes of what is lent, and giving its last bytes is a run that is owed.
use mathlib.Core.Path.{refl}
use native.Mathlib.Omega.{arith}
use lib.ListN.{take, length-take}
use Rattle.client.specs.Calls.{payload}
use Rattle.client.specs.Session.{paying}
use Rattle.client.proofs.Left.{paying_more}
use Rattle.client.proofs.Runs.{owed_leaf}
use Rattle.client.proofs.transmission.Exchange.pay.Goals as goal

pub slice_bounds-give-end : goal.slice_bounds-give-end
slice_bounds-give-end c = omega (arith, length-take c.payload-all.result c.args.lent.now)

pub give-n-requires : goal.give-n-requires
give-n-requires c = omega (arith, length-take c.payload-all.result c.args.lent.now, c.payload-all.ensures)

pub returns : goal.returns
returns c =
    let a = c.args in
    let p = c.requires in
    owed_leaf (paying a.self.device a.self.call) (take (payload a.self.call) a.lent.now) a.lent.now (λ _. refl) (rw c.payload-all.ensures) p.1.0 (omega (arith, length-take (payload a.self.call) a.lent.now)) (paying_more a.self.device a.self.call a.left (omega arith)) c.give-n.ensures (rw c.from_parts.ensures (c.paying.ensures a.self.head))
