-- A paste behind the bytes that are there appends the bytes that came.
use native.Mathlib.Omega.{arith}
use lib.Seq.{take-paste}
use Rattle.machine.proofs.parts.gather.Goals as goal

pub returns : goal.returns
returns c =
    let a = c.args in
    record {
      least = c.min-n.ensures;
      bytes = rw c.copy_part.ensures (take-paste a.head.now a.have a.input.now c.min-n.result (omega arith) (omega (arith, c.min-n.ensures)));
    }
