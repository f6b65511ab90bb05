-- The payload is counted and dropped.
use native.Mathlib.Omega.{arith}
use Rattle.machine.proofs.Leaves.{drop_leaf}
use Rattle.server.specs.Session.{passing}
use Rattle.server.proofs.Left.{passing_more}
use Rattle.server.proofs.Session.{each_passed}
use Rattle.server.proofs.state.Passing.take.Goals as goal

pub returns : goal.returns
returns c =
    let s = c.args.self in
    λ t m input e.
    drop_leaf (passing s.zeroes s.option s.len) (each_passed t s.zeroes s.option s.len) (passing_more _ _ _ _ (λ z. omega (arith, c.requires))) (rw e c.min-n.ensures) c.requires (c.phase-phase.ensures _)
