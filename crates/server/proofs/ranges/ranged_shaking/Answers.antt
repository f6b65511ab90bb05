-- A set has 32 exports, whatever its number.
use borrow.Author.Tests.{lt-ltb}
use Rattle.wire.proofs.Words.{length_bits}
use Rattle.server.proofs.ranges.ranged_shaking.Goals as goal

pub returns-then-n-gt0 : goal.returns-then-n-gt0
returns-then-n-gt0 c = rw (c.in-Naming.is, length_bits 32 c.in-Naming.n.fits, lt-ltb _ _ c.if-n-gt0.true) c.within.ensures
