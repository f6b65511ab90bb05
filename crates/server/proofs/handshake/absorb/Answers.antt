-- Each phase's leaf moves the machine; a phase that owes output takes nothing.
use mathlib.Core.Path.{refl}
use Rattle.machine.proofs.Leaves.{absorbs_idle}
use Rattle.server.proofs.Idle.{shaking_wants}
use Rattle.server.proofs.handshake.absorb.Goals as goal

pub returns-in-ClientFlags : goal.returns-in-ClientFlags
returns-in-ClientFlags c = λ m. rw c.in-ClientFlags.is (c.take_flags.ensures _ m)

pub returns-in-OptionHead : goal.returns-in-OptionHead
returns-in-OptionHead c = λ m. rw c.in-OptionHead.is (c.take_option.ensures m)

pub returns-in-Naming : goal.returns-in-Naming
returns-in-Naming c = λ m. rw c.in-Naming.is (c.take.ensures m)

pub returns-in-Passing : goal.returns-in-Passing
returns-in-Passing c = λ m. rw c.in-Passing.is (c.take-in-Passing.ensures _ m _ refl)

pub returns-in_default : goal.returns-in_default
returns-in_default c =
    let d = c.in_default in
    λ m. rw c.none.ensures (absorbs_idle (shaking_wants c.args.table.now m c.args.head c.args.p d.not-ClientFlags d.not-OptionHead d.not-Naming d.not-Passing))
