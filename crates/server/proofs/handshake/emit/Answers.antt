-- What the phase owes is computed anew, and given from where the last step left off.
use Rattle.server.specs.View.{handshake_of}
use Rattle.server.proofs.Owing.{owed_within, owed_emits}
use Rattle.server.proofs.handshake.emit.Goals as goal

pub give-n-requires : goal.give-n-requires
give-n-requires c =
    let a = c.args in
    let o = c.owed-owed.ensures a.head in
    rw (o.front, o.still) (owed_within (handshake_of a.head a.p) c.requires)

pub returns : goal.returns
returns c =
    let a = c.args in
    λ t m.
    owed_emits t m (handshake_of a.head a.p) c.requires (c.owed-owed.ensures a.head) c.give-n.ensures
    (c.with_left-phase.ensures a.head)
