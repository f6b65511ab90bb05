-- The step is offered no more than its phase can take, so proofs/Stored.antt says which part it changed.
use native.Mathlib.Omega.{arith}
use Rattle.server.proofs.Result.{image_length}
use Rattle.serve.proofs.Stored.{taken_within, takes_apart, no_room}
use Rattle.serve.proofs.stepping.take.Goals as goal

pub changed-part-requires : goal.changed-part-requires
changed-part-requires c =
    let s = no_room (rw c.offered-n.ensures at c.step-step.ensures) in
    omega (arith, (takes_apart c.args.input.now s).lies, image_length s)

pub returns : goal.returns
returns c =
    let s = no_room (rw c.offered-n.ensures at c.step-step.ensures) in
    let input = c.args.input.now in
    record {
      step = s;
      within_input = taken_within input s;
      part = c.changed-part.ensures;
      apart = rw c.changed-part.ensures (takes_apart input s);
    }
