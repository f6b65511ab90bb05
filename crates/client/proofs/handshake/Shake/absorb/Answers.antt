-- The phases that owe want no byte.
use mathlib.Core.Path.{refl}
use Rattle.machine.proofs.Leaves.{absorbs_idle}
use Rattle.client.proofs.Resting.{shaking_wants}
use Rattle.client.proofs.handshake.Shake.absorb.Goals as goal

pub returns-in_default : goal.returns-in_default
returns-in_default c =
    let a = c.args in
    let n = c.in_default in
    λ m. rw (c.none.ensures, c.from_parts.ensures) (absorbs_idle (shaking_wants a.self.name a.self.head m a.p n.not-Magic n.not-Style n.not-Newstyle n.not-SizeAndFlags n.not-Filler))

pub returns-in-Magic : goal.returns-in-Magic
returns-in-Magic c = λ m. rw c.in-Magic.is (c.take_magic.ensures m)

pub returns-in-Style : goal.returns-in-Style
returns-in-Style c = λ m. rw c.in-Style.is (c.take_style.ensures m)

pub returns-in-SizeAndFlags : goal.returns-in-SizeAndFlags
returns-in-SizeAndFlags c = λ m. rw c.in-SizeAndFlags.is (c.take_size_and_flags.ensures m)

pub returns-in-Filler : goal.returns-in-Filler
returns-in-Filler c = λ m. rw c.in-Filler.is (c.take_filler.ensures m)

pub returns-in-Newstyle : goal.returns-in-Newstyle
returns-in-Newstyle c = λ m. rw c.in-Newstyle.is (c.skip_flags.ensures m c.args.input.now refl)
