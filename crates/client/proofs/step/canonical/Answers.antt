-- The bytes in use copied over zeros, with the phase that follows, are the one client of that state.
use Prim.Native.Nat.{◌+◌}
use mathlib.Core.Path.{◌≡◌, ap, ◌∙◌}
use native.Mathlib.Omega.{arith}
use borrow.Author.Rules.{rules}
use Rattle.client.specs.View.{code}
use Rattle.client.proofs.Tidy.{copied}
use Rattle.client.proofs.step.canonical.Goals as goal

pub returns : goal.returns
returns c =
    let a = c.args in
    let e = c.after-phase.ensures in
    let z : 0 + c.used-k.result ≡ c.used-k.result = omega arith in
    copied c.after-phase.result a.s.head c.used-k.result (search rules) (rw e.0 c.requires) c.used-k.ensures (rw (c.copy_from_slice.ensures.after, z)) ∙ ap code (e.1 a.s.head)
