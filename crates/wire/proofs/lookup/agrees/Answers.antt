-- the part of the name that is as long as the part asked for holds the same bytes, or is not there
use mathlib.Core.Path.{sym, ◌∙◌}
use native.Mathlib.Omega.{arith}
use Prim.Native.Nat.{◌-◌}
use lib.ListN.{length, drop, length-drop}
use lib.Seq.{take_all}
use borrow.Author.Tests.{lt-leb}
use Rattle.wire.specs.Walk.{seen}
use Rattle.wire.proofs.Sieves.{has_all_starts, has_all_long}
use Rattle.wire.proofs.lookup.agrees.Goals as goal

pub returns-then-e-at : goal.returns-then-e-at
returns-then-e-at c =
    let a = c.args in
    let name = a.e.name.now in
    let behind = take_all (length name - a.at) (drop a.at name) (omega (arith, length-drop a.at name)) in
    rw (c.starts_with.ensures.value, behind) (has_all_starts (seen a.e) a.at a.part.now)

pub returns-else-e-at : goal.returns-else-e-at
returns-else-e-at c =
    let a = c.args in
    lt-leb _ _ c.if-e-at.false ∙ sym (has_all_long (seen a.e) a.at a.part.now c.requires (omega arith))
