-- Document 000's connection, on values: the whole input is a list, and what is written is another.
--   read_exact    `read_exact`: n bytes and what is left behind them; on too few it takes them all, and the function ends
--   read_number   a big-endian number of n bytes
--   Outcome      how a session ends: with 01's number for 000's message, or with the one message for which 01 has none
--   Served       what is left of the input, what was sent, what the device holds and the outcome
--   sends        bytes are sent, and then it goes on
use Rattle.std.specs.Prelude.{ℕ, List, ◌++◌, leb, length, take, drop}
use Rattle.machine.specs.Choice.{pick}
use Rattle.wire.specs.Fields.{number}

module _ {R : Type 0} where
  abbrev pub read_exact : ℕ → List ℕ → R → (List ℕ → List ℕ → R) → R
  read_exact n input short more = pick (leb n (length input)) (more (take n input) (drop n input)) short

  abbrev pub read_number : ℕ → List ℕ → R → (ℕ → List ℕ → R) → R
  read_number n input short more = read_exact n input short (λ bytes left. more (number bytes) left)

pub data Outcome : Type 0 where
  ended : ℕ → Outcome
  sudden_eof : Outcome

pub record Served : Type 0 where
  pub left : List ℕ
  pub sent : List ℕ
  pub device : List ℕ
  pub outcome : Outcome

abbrev pub sends : List ℕ → Served → Served
sends bytes r = record { left = r.left; sent = bytes ++ r.sent; device = r.device; outcome = r.outcome }
