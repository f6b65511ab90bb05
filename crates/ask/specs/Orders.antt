-- The lines of a script.
--   OrderIn k   a file's name has at most k bytes
use Rattle.std.specs.Prelude.{ℕ, ◌≤◌, length}
use Rattle.ask.specs.declared.orders.Order as ord

abbrev pub OrderIn : ℕ → ord.Order → Type 0
OrderIn k (ord.Order.Read n file) = length file.now ≤ k
OrderIn k (ord.Order.Write file) = length file.now ≤ k
OrderIn k (ord.Order.Seek from) = Unit {0}
OrderIn k ord.Order.Flush = Unit {0}
OrderIn k (ord.Order.Trim n) = Unit {0}
OrderIn k (ord.Order.Resize n) = Unit {0}
