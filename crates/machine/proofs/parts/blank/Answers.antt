use mathlib.Core.Path.{ap, ◌∙◌}
use borrow.Author.Rules.{rules}
use borrow.Author.Tests.{tests}
use lib.Dec.{eqb}
use lib.ListN.{drop}
use Rattle.std.specs.List.{list_all}
use Rattle.std.proofs.lemmas.Iterator.{YieldsList-from_slice}
use Rattle.std.proofs.lemmas.Iterator.Search.{all_from_yields_List}
use Rattle.machine.proofs.Zeros.{blank_all, rest_from}
use Rattle.machine.proofs.parts.blank.Goals as goal

pub returns : goal.returns
returns c =
    let l = c.args.l.now in
    all_from_yields_List (λ b. eqb b 0) _ _ _ c.all.ensures.ran (YieldsList-from_slice _ c.iter.ensures.rest) (λ x b q k. search (rules, tests)) ∙ ap (list_all (λ b. eqb b 0)) (rest_from l c.args.from _ c.min.ensures) ∙ blank_all (drop c.args.from l)
