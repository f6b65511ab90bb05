-- The loop goes as far as it can, from a state that is not refused, and its state is tidied.
use mathlib.Core.Path.{sym, ap, ◌∙◌}
use borrow.Author.Rules.{rules}
use lib.ListN.{length}
use Rattle.server.specs.View.{view, code}
use Rattle.server.proofs.Tidy.{used_fits, stands_for}
use Rattle.server.specs.Contract.{number_of}
use Rattle.server.proofs.Kept.{next_good, lasts}
use Rattle.server.proofs.Numbers.{numbered}
use Rattle.server.proofs.Bounds.{accepted}
use Rattle.server.proofs.state.Server.step.Goals as goal

pub advance-r-requires : goal.advance-r-requires
advance-r-requires c = lasts (accepted c.args.table.now (length c.args.image.now) c.args.self (sym c.in_default.ensures))

pub canonical-state-requires : goal.canonical-state-requires
canonical-state-requires c =
    let s = c.advance-r.result.state.server in
    let g = accepted c.args.table.now (length c.args.image.now) c.args.self (sym c.in_default.ensures) in
    used_fits s.head (search rules) s.phase (next_good c.advance-r.ensures.goes.moves g).within

pub returns : goal.returns
returns c =
    let t = c.canonical-state.ensures in
    let fine = sym c.in_default.ensures in
    let v = stands_for (view c.advance-r.result.state.server) (next_good c.advance-r.ensures.goes.moves (accepted c.args.table.now (length c.args.image.now) c.args.self fine)).within t in
    record {
      refuses = λ z. absurd (z fine);
      accepts = λ _. record { steps = rw v c.advance-r.ensures; one_struct = t ∙ ap code (sym v); outcome = c.outcome_of-outcome.ensures; number = ap number_of c.outcome_of-outcome.ensures ∙ numbered (view c.canonical-state.result) };
    }
