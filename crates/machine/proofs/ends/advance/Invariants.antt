-- The loop puts turns together: what was taken and given so far is moves from the start, and a turn that moves nothing is the end.
use Prim.Native.Nat.{◌+◌, ◌-◌}
use lib.ListN.{length}
use Rattle.machine.specs.Machine.{on}
use Rattle.machine.specs.Pieces.{Goes}
use Rattle.machine.proofs.ends.advance.Given as goal

abbrev pub invariant-loop : goal.invariant-loop
invariant-loop g l = Goes (g.E.End.machine l.still) (on (g.E.End.view l.initial.at) l.initial.lent) l.input l.initial.room l.i l.o (on (g.E.End.view l.at) l.lent) l.room

abbrev pub decreases-loop : goal.decreases-loop
decreases-loop g l = (length l.input - l.i) + (length l.initial.room - l.o)
