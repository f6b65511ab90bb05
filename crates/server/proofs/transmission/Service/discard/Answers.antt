-- The payload is counted and dropped.
use native.Mathlib.Omega.{arith}
use Rattle.machine.proofs.Leaves.{drop_leaf}
use Rattle.server.specs.Session.{dropping}
use Rattle.server.proofs.Left.{dropping_more}
use Rattle.server.proofs.Session.{each_dropped}
use Rattle.server.proofs.transmission.Service.discard.Goals as goal

pub returns : goal.returns
returns c =
    let e = c.args.self.export in
    let p = c.args.payload in
    λ t m input same.
    drop_leaf (dropping e p.error p.handle) (each_dropped t e p.error p.handle) (dropping_more _ _ _ _ (λ z. omega (arith, c.requires))) (rw same c.min-n.ensures) c.requires (rw c.at.ensures (c.dropping.ensures _))
