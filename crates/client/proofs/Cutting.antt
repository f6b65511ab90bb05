-- The way in which the stream of a handshake or a call is cut cannot be seen.
--   driven_session   a client that is stepped is a session of the machine
--   cut              two ways to step a client over one stream until nothing more moves: the same bytes given, place, lent slice and bytes left
use Prim.Native.Nat.{ℕ}
use mathlib.Core.Path.{◌≡◌, ap, ◌∙◌}
use mathlib.Core.List.{List, append-nil}
use lib.ListN.{take}
use Rattle.machine.specs.Machine.{On, on}
use Rattle.machine.specs.Run.{Ran}
use Rattle.machine.specs.Stream.{Session, over, piece, Finished}
use Rattle.machine.proofs.Cutting.{cutting}
use Rattle.client.specs.Session.{State, turn}
use Rattle.client.specs.View.{view}
use Rattle.client.specs.Contract.{after}
use Rattle.client.specs.History.{Driven, once, again}
use Rattle.client.specs.declared.state.Client.{Client}
use Rattle.client.proofs.Tidy.{viewed}

pub driven_session : {s : Client} {m stream given m' rest : List ℕ} {x : State} → Driven s m stream given x m' rest
    → Session turn (on (view s) m) stream given (on x m') rest
driven_session (once {r = r} {room' = room'} n d fine) =
    rw (append-nil (take r.given room')) at (piece n (d.accepts fine).steps.goes over)
driven_session (again {r = r} n d fine still p) =
    let a = d.accepts fine in
    let v : view r.state ≡ a.place = ap view a.state ∙ viewed (after a.place) ∙ still in
    piece n a.steps.goes (rw v at (driven_session p))

pub cut : {s : Client} {m stream given m' rest given₂ m₂ rest₂ : List ℕ} {x x₂ : State}
    → Driven s m stream given x m' rest → Finished (turn (on x m')) rest → Driven s m stream given₂ x₂ m₂ rest₂ → Finished (turn (on x₂ m₂)) rest₂
    → (given ≡ given₂) × (x ≡ x₂) × (m' ≡ m₂) × (rest ≡ rest₂)
cut p f q g =
    let e = cutting (driven_session p) f (driven_session q) g in
    let at = ap (λ (r : Ran (On State)). r.stands) e in
    (ap (λ (r : Ran (On State)). r.given) e, cc at, cc at, ap (λ (r : Ran (On State)). r.rest) e)
