-- The bytes in use are copied over zeros.
use mathlib.Core.Path.{◌≡◌, refl}
use native.Mathlib.Omega.{arith}
use borrow.Author.Rules.{rules}
use Rattle.server.specs.declared.state.Handshake as hs
use Rattle.server.specs.declared.state.Phase as ph
use Rattle.server.proofs.Tidy.{Digits, copied}
use Rattle.server.proofs.step.canonical.Goals as goal

pub returns : goal.returns
returns c = rw c.copy_from_slice.ensures.after (copied _ (search rules) _ _ c.requires (go c.args.s.phase refl) c.used-k.ensures refl)
  where
    go : (p : ph.Phase) → c.args.s.phase ≡ p → Digits p
    go (ph.Phase.Shaking (hs.Handshake.Naming n)) e = let g = rw e at c.well_formed.0 in omega (arith, g)
    go (ph.Phase.Shaking (hs.Handshake.Greeting left)) e = tt
    go (ph.Phase.Shaking (hs.Handshake.ClientFlags have)) e = tt
    go (ph.Phase.Shaking (hs.Handshake.OptionHead z have)) e = tt
    go (ph.Phase.Shaking (hs.Handshake.Passing p)) e = tt
    go (ph.Phase.Shaking (hs.Handshake.Listing z left)) e = tt
    go (ph.Phase.Shaking (hs.Handshake.Declining d)) e = tt
    go (ph.Phase.Shaking (hs.Handshake.Aborting left)) e = tt
    go (ph.Phase.Shaking (hs.Handshake.Exporting x)) e = tt
    go (ph.Phase.Serving x p) e = tt
    go (ph.Phase.Over n) e = tt
