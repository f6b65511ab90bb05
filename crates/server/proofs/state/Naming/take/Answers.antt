-- A part of the name narrows the set and runs the text, as its bytes would one by one.
use Prim.Native.Nat.{◌≤◌}
use mathlib.Core.Path.{◌∙◌}
use native.Mathlib.Omega.{arith}
use lib.ListN.{length}
use lib.Seq.{length-take-le}
use Rattle.wire.specs.Lookup.{set_of}
use Rattle.server.proofs.Names.{name_leaf}
use Rattle.server.proofs.state.Naming.take.Goals as goal

pub returns : goal.returns
returns c =
    let a = c.args in
    let n = c.min-n.result in
    let h : n ≤ length a.input.now = omega (arith, c.min-n.ensures) in
    λ m. name_leaf _ _ m (set_of a.self.fits) a.self.text a.self.at c.requires.0 c.min-n.ensures
    (rw (length-take-le n a.input.now h) (c.phase-phase.ensures _ ∙ rw (c.run.ensures, c.narrowed.ensures)))
