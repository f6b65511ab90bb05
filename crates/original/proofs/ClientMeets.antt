-- The client's machine does over an input what a call of document 000 comes to.
--   answer_of     what a place stands for: a result, a fault, or that more is wanted, which the end of input makes 50; a call is closed only by a success or by
--                a device error
--   Meets        from x
--   meets_closed, meets_over, meets_cut   moves that close a call; that come to an end; that want a byte more
--   part_run     bytes gathered that are too few to be judged
use Prim.Native.Nat.{ℕ, ◌<◌}
use mathlib.Core.Path.{◌≡◌, refl}
use mathlib.Core.List.{List, [], ◌∷◌, ◌++◌}
use Rattle.std.specs.Prelude.{Option, None, Some}
use native.Mathlib.Omega.{arith}
use lib.ListN.{length}
use Rattle.machine.specs.Machine.{On, on, takes, Moves, still}
use Rattle.machine.proofs.Families.{Gathers}
use Rattle.machine.proofs.Bulk.{gathers}
use Rattle.client.specs.Session.{State, Blank, Shaking, Ready, Calling, Closed, Over, turn}
use Rattle.client.specs.Contract.{values_in}
use Rattle.client.specs.declared.state.Device.{Device}
use Rattle.client.specs.declared.state.Outcome.{Outcome}
use Rattle.client.specs.declared.state.Outcome.TheVariants.{Open, Succeeded, Failed, Ended, Refused}
use Rattle.original.specs.Client.{NbdClient, Answer, ok, failed, fault, Done}
use Rattle.original.proofs.Reaches.{Reaches, reaches_rest, reaches_cut}

abbrev pub client_of : Device → NbdClient
client_of d = record { size = d.size; position = d.position }

abbrev pub closed_answer : Outcome → Device → Option Answer
closed_answer Open d = None
closed_answer (Succeeded v) d = Some (ok (values_in v) (client_of d))
closed_answer (Failed error) d = Some (failed error (client_of d))
closed_answer (Ended n) d = None
closed_answer (Refused n) d = None

abbrev pub answer_of : State → Option Answer
answer_of Blank = Some (fault 50)
answer_of (Shaking n p) = Some (fault 50)
answer_of (Ready d) = Some (fault 50)
answer_of (Calling d c p) = Some (fault 50)
answer_of (Closed o d) = closed_answer o d
answer_of (Over n) = Some (fault n)

abbrev pub Meets : On State → List ℕ → Done → Type 0
Meets x input r = Reaches turn answer_of x input r.left r.sent r.buffer (Some r.answer)

pub meets_closed : {is input left m : List ℕ} {x : On State} (o : Outcome) (d : Device) → Moves turn x is [] (on (Closed o d) m) → input ≡ is ++ left
    → Reaches turn answer_of x input left [] m (closed_answer o d)
meets_closed o d p e = reaches_rest (Closed o d) refl p e

pub meets_over : {is input left m : List ℕ} {x : On State} {n : ℕ} → Moves turn x is [] (on (Over n) m) → input ≡ is ++ left
    → Reaches turn answer_of x input left [] m (Some (fault n))
meets_over {n = n} p e = reaches_rest (Over n) refl p e

pub meets_cut : {input m : List ℕ} {x : On State} {y : State} {k : ℕ → On State} → Moves turn x input [] (on y m) → turn (on y m) ≡ takes k → answer_of y ≡ Some (fault 50)
    → Reaches turn answer_of x input [] [] m (Some (fault 50))
meets_cut {y = y} p e n = reaches_cut y p e n

pub part_run : (wait judge : List ℕ → State) (to : ℕ) → ((h : List ℕ) → length h < to → judge h ≡ wait h) → (h m : List ℕ) → Gathers turn wait judge m → length h < to
    → Moves turn (on (wait []) m) h [] (on (wait h) m)
part_run wait judge to quiet [] m each e = still
part_run wait judge to quiet (b ∷ h) m each e =
    rw (quiet (b ∷ h) e) at (gathers turn wait judge {m = m} 0 to each (λ k lo hi. quiet k hi) b h [] (omega arith) (omega arith))
