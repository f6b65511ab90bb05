-- The request stands in the array, and giving its last bytes is a run that is owed.
use mathlib.Core.Path.{refl}
use native.Mathlib.Omega.{arith}
use Rattle.client.specs.Calls.{request_bytes}
use Rattle.client.specs.Session.{after_request}
use Rattle.client.proofs.Left.{asking_more}
use Rattle.client.proofs.Runs.{owed_leaf, length_asks}
use Rattle.client.proofs.transmission.Exchange.send_request.Goals as goal

pub returns : goal.returns
returns c =
    let a = c.args in
    let p = c.requires in
    λ m. owed_leaf (after_request a.self.device a.self.call) (request_bytes a.self.device a.self.call) m (λ _. refl) c.request_bytes-bytes.ensures p.0 (rw (length_asks a.self.device a.self.call) p.1) (asking_more a.self.device a.self.call a.left (omega arith)) c.give-n.ensures (rw c.from_parts.ensures (c.after_request.ensures a.self.head))
