-- The bytes are gathered behind those that are there, and judged when there are as many as the style has.
use mathlib.Core.Path.{◌≡◌, refl}
use native.Mathlib.Omega.{arith}
use borrow.Author.Rules.{rules}
use lib.ListN.{length}
use Rattle.client.specs.Session.{SizeAndFlags, Shaking, judge_size_and_flags, size_and_flags_length}
use Rattle.client.proofs.Header.{terms_most, terms_part}
use Rattle.client.proofs.Runs.{gathered_leaf}
use Rattle.client.proofs.handshake.Shake.take_size_and_flags.Goals as goal

pub returns : goal.returns
returns c =
    let a = c.args in
    let s : length c.args.self.head ≡ 16 = search rules in
    λ m. gathered_leaf (λ h. Shaking a.self.name (SizeAndFlags a.old h)) (judge_size_and_flags a.self.name a.old) (size_and_flags_length a.old) (terms_part a.self.name a.old) (λ _. refl) c.requires (omega (arith, terms_most a.old)) (rw c.size_and_flags_length.ensures at c.take.ensures.gathers) c.take.ensures.judged.1
