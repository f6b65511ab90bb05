-- what the records passed have added and what those left would add is the word of the sieve by the part
use Prim.Native.Nat.{ℕ}
use mathlib.Core.Bool.{Bool}
use mathlib.Core.List.{List}
use Rattle.wire.specs.Table.{Record, records}
use Rattle.wire.specs.Lookup.{word, set_of}
use Rattle.wire.specs.Walk.{has_all, due}
use Rattle.wire.proofs.Sieves.{sieved, Sieving}
use Rattle.wire.proofs.lookup.narrowed.Given as goal

abbrev pub fitting : ℕ → List ℕ → Record → Bool
fitting at part r = has_all r at part

abbrev pub all : ℕ → List ℕ → ℕ → List ℕ → ℕ
all set table at part = word (sieved (fitting at part) (records table) (set_of set))

abbrev pub invariant-loop-e : goal.invariant-loop-e
invariant-loop-e l = Sieving (fitting l.at l.part) (all l.set l.table l.at l.part) (due l.e-iterator) l.s
