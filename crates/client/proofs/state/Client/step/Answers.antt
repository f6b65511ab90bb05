-- A client that is not refused is in its ranges, and its moves keep it there; it is handed back as the client of the place that it came to.
use mathlib.Core.Path.{sym, ap, ◌∙◌}
use borrow.Author.Rules.{rules}
use lib.ListN.{length}
use Rattle.client.specs.View.{view}
use Rattle.client.specs.Contract.{number_of, values_of}
use Rattle.client.proofs.Numbers.{numbered, valued}
use Rattle.client.proofs.Refusals.{accepted}
use Rattle.client.proofs.Kept.{sound, lasts}
use Rattle.client.proofs.Tidy.{used_fits}
use Rattle.client.proofs.state.Client.step.Goals as goal

pub advance-r-requires : goal.advance-r-requires
advance-r-requires c = lasts (accepted (length c.args.lent.now) c.args.self (sym c.in_default.ensures))

pub canonical-requires : goal.canonical-requires
canonical-requires c =
    let a = c.args in
    let e = c.advance-r.result.state.client in
    used_fits _ e.phase e.head (search rules) (sound c.advance-r.ensures.goes.moves (accepted (length a.lent.now) a.self (sym c.in_default.ensures)))

pub returns : goal.returns
returns c =
    let end = c.advance-r.result.state.client in
    let told = c.outcome_of.ensures end.head in
    record {
      refuses = λ z. absurd (z (sym c.in_default.ensures));
      accepts = λ _. record {
        place = view end;
        steps = c.advance-r.ensures;
        state = c.canonical.ensures;
        outcome = told;
        number = ap number_of told ∙ numbered (view end);
        values = ap values_of told ∙ valued (view end);
      };
    }
