-- The phases that take owe no byte.
use Rattle.machine.proofs.Leaves.{emits_idle}
use Rattle.client.proofs.Resting.{shaking_owes}
use Rattle.client.proofs.handshake.Shake.emit.Goals as goal

pub returns-in_default : goal.returns-in_default
returns-in_default c =
    let a = c.args in
    let n = c.in_default in
    rw (c.none.ensures, c.from_parts.ensures) (emits_idle (shaking_owes a.self.name a.self.head a.lent.now a.p n.not-Hello n.not-Naming))

pub returns-in-Hello : goal.returns-in-Hello
returns-in-Hello c = rw c.in-Hello.is (c.send_hello.ensures _)
