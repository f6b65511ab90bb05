-- Too few bytes wait; when all are there the array's fields are those of the bytes gathered.
use native.Mathlib.Omega.{arith}
use borrow.Author.Rules.{rules}
use Rattle.client.specs.Session.{SizeAndFlags, Shaking, judge_size_and_flags, size_and_flags_length}
use Rattle.client.proofs.Header.{terms_most, terms_part, part_waits, terms_whole}
use Rattle.client.proofs.handshake.judge_size_and_flags.Goals as goal

pub returns-then-k-size_and_flags_length : goal.returns-then-k-size_and_flags_length
returns-then-k-size_and_flags_length c =
    let a = c.args in
    part_waits (λ h. Shaking a.name (SizeAndFlags a.old h)) (judge_size_and_flags a.name a.old) (size_and_flags_length a.old) (terms_part a.name a.old) a.head a.k (omega (arith, terms_most a.old)) (rw c.size_and_flags_length.ensures at c.if-k-size_and_flags_length.true)

pub returns : goal.returns
returns c =
    let a = c.args in
    rw (c.read.ensures, c.flags_of.ensures) (terms_whole a.name a.old a.head a.k (search rules) (rw c.size_and_flags_length.ensures at c.if-k-size_and_flags_length.false) c.requires)
