-- Narrowing the set so far by what is left of the name gives what the whole name gives.
use mathlib.Core.Path.{◌≡◌}
use lib.ListN.{length, drop}
use Rattle.wire.specs.Lookup.{started, narrowed_by, set_of}
use Rattle.wire.specs.Table.{records}
use Rattle.leaves.proofs.names.singly.Given as goal

abbrev pub invariant-loop-i : goal.invariant-loop-i
invariant-loop-i l =
    narrowed_by (records l.t) l.i (drop l.i l.name) (set_of l.set) ≡ narrowed_by (records l.t) 0 l.name (started (records l.t) (length l.name))
