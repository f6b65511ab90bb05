-- What takes owes no byte.
use Rattle.machine.proofs.Leaves.{emits_idle}
use Rattle.client.proofs.Resting.{calling_owes}
use Rattle.client.proofs.transmission.Exchange.emit.Goals as goal

pub returns-in_default : goal.returns-in_default
returns-in_default c =
    let a = c.args in
    let n = c.in_default in
    rw (c.none.ensures, c.from_parts.ensures, c.calling.ensures a.self.head) (emits_idle (calling_owes a.self.device a.self.call a.self.head a.lent.now a.p n.not-Asking n.not-Paying))

pub returns-in-Asking : goal.returns-in-Asking
returns-in-Asking c = rw c.in-Asking.is (c.send_request.ensures _)
