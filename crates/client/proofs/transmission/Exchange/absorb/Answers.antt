-- What owes wants no byte.
use Rattle.machine.proofs.Leaves.{absorbs_idle}
use Rattle.client.proofs.Resting.{calling_wants}
use Rattle.client.proofs.transmission.Exchange.absorb.Goals as goal

pub returns-in_default : goal.returns-in_default
returns-in_default c =
    let a = c.args in
    let n = c.in_default in
    rw (c.none.ensures, c.from_parts.ensures, c.calling.ensures a.self.head) (absorbs_idle (calling_wants a.self.device a.self.call a.self.head a.lent.now a.p n.not-Hearing n.not-Filling))

pub returns-in-Hearing : goal.returns-in-Hearing
returns-in-Hearing c = rw c.in-Hearing.is (c.hear.ensures _)
