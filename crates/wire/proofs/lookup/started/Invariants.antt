-- what the records passed have added and what those left would add is the word of the sieve by length
use Prim.Native.Nat.{ℕ}
use mathlib.Core.Bool.{Bool}
use mathlib.Core.List.{List}
use lib.Dec.{eqb}
use lib.ListN.{length}
use Rattle.wire.specs.Table.{Record, records}
use Rattle.wire.specs.Lookup.{word, set_of}
use Rattle.wire.specs.Walk.{due}
use Rattle.wire.proofs.Sieves.{sieved, Sieving}
use Rattle.wire.proofs.lookup.started.Given as goal

abbrev pub long : ℕ → Record → Bool
long len r = eqb (length r.name) len

abbrev pub all : List ℕ → ℕ → ℕ
all table len = word (sieved (long len) (records table) (set_of 0xFFFFFFFF))

abbrev pub invariant-loop-e : goal.invariant-loop-e
invariant-loop-e l = Sieving (long l.len) (all l.table l.len) (due l.e-iterator) l.s
