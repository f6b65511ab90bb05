-- one record fewer is due, and none where none stands at the front
use mathlib.Core.Path.{sym, ap, ◌∙◌}
use native.Mathlib.Omega.{arith}
use lib.ListN.{length}
use Rattle.std.specs.Option.{option_flatten}
use Rattle.wire.proofs.Walks.{records_out, records_turn, records_end}
use Rattle.wire.proofs.Iterations.{some_front, none_front}
use Rattle.wire.proofs.records.RecordsIterator.next.Goals as goal

pub returns-then-self-eq0-clause-steps : goal.returns-then-self-eq0-clause-steps
returns-then-self-eq0-clause-steps c =
    let s = c.args.self.now in
    let none = records_out s.left s.bytes.now (omega arith) in
    (none, none)

pub returns-in_err-e-clause-steps : goal.returns-in_err-e-clause-steps
returns-in_err-e-clause-steps c =
    let s = c.args.self.now in
    let ended = ap option_flatten (sym c.ok.ensures.value) ∙ sym c.flatten.ensures ∙ c.in_err-e.was in
    let none = records_end s.left s.bytes.now (none_front c.front.result s.bytes.now c.front.ensures ended) in
    rw c.from_residual.ensures (none, none)

pub returns-clause-steps : goal.returns-clause-steps
returns-clause-steps c =
    let s = c.args.self.now in
    let found = ap option_flatten (sym c.ok.ensures.value) ∙ sym c.flatten.ensures ∙ c.in_ok-e.was in
    records_turn s.left s.bytes.now (some_front c.front.result _ s.bytes.now c.front.ensures found) (omega arith)

pub returns-clause-goes : goal.returns-clause-goes
returns-clause-goes c = let one = ap length (returns-clause-steps c) in record { on = λ _. (tt, tt, omega arith); keeps = tt; rests = λ _. tt }
