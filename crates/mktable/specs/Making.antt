-- What a line says.
--   ParsedIn k   the record that it asks for, if any, has a name of at most k bytes
use Rattle.std.specs.Prelude.{ℕ, ◌≤◌, length, Option, Result, IfSome, IfOk}
use Rattle.host.specs.declared.text.Mistake.{Mistake}
use Rattle.wire.specs.declared.records.Entry.{Entry}

abbrev pub ParsedIn : ℕ → Result (Option Entry) Mistake → Type 0
ParsedIn k r = IfOk r (λ (o : Option Entry). IfSome o (λ (x : Entry). length x.name.now ≤ k))
