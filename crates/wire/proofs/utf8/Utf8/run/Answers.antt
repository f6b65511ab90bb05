-- a byte at a time is what the definition does
use Rattle.std.proofs.Common.{rules, tests}
use Prim.Native.Nat.{ℕ}
use mathlib.Core.Path.{◌≡◌, refl, ◌∙◌}
use mathlib.Core.List.{List, [], ◌∷◌}
use Rattle.std.specs.List.{fold}
use Rattle.std.proofs.lemmas.Iterator.{YieldsList-from_slice}
use Rattle.std.proofs.lemmas.Iterator.Consumers.{fold_from_yields_List}
use Rattle.wire.specs.Utf8.{next, run}
use Rattle.wire.specs.declared.utf8.Utf8.{Utf8}
use Rattle.wire.proofs.utf8.Utf8.run.Goals as goal

folded : (s : Utf8) (bs : List ℕ) → fold next s bs ≡ run s bs
folded s [] = refl
folded s (b ∷ bs) = folded (next s b) bs

pub returns : goal.returns
returns c =
    let a = c.args in
    fold_from_yields_List _ next a.self c.fold.result c.fold.ensures.ran (YieldsList-from_slice a.part.now cc) (λ s b t q k. search (rules, tests))
    ∙ folded a.self a.part.now
