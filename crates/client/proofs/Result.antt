-- What follows from the contracts alone.
--   same_result    two results of one step are equal: the client, the counts, the outcome, what is lent and the room
--   within         the counts of a step lie within what was lent, and the room is as long as it was, refused or not
--   same_answer    so are two answers of any other public function, whose contract is an equation
--   in_ranges      a client that was reached from a fresh one is within its ranges: none of its calls or steps answers 53
--   idle           a step of a client that rests, with nothing open or after an end, moves nothing and changes nothing but that a result is told once
--   goes_on        a step that was not refused leaves a client that the next one, lent as much, does not refuse
use Prim.Native.Nat.{ℕ, zero, suc, min, ◌-◌, ◌≤◌}
use mathlib.Core.Path.{◌≡◌, refl, sym, ap, ◌∙◌}
use mathlib.Core.Bool.{Bool, true, false}
use mathlib.Core.List.{List, []}
use Rattle.std.specs.Prelude.{Option, None, Some, Result, Ok, Err}
use native.Mathlib.Omega.{arith}
use borrow.Author.Tests.{eqb-false, ltb-false}
use lib.Dec.{eqb, ltb, leb}
use lib.ListN.{length}
use lib.Seq.{length-take-le}
use Rattle.machine.specs.Choice.{pick}
use Rattle.machine.specs.Machine.{on, rests}
use Rattle.machine.proofs.Moves.{resting}
use Rattle.machine.proofs.Runs.{same_step}
use Rattle.wire.specs.Numbers.{clamped}
use Rattle.client.specs.Calls.{transfer, sought, amount, positioned, value_of}
use Rattle.client.specs.Session.{Magic, Asking, State, Blank, Shaking, Ready, Calling, Closed, Over, turn}
use Rattle.client.specs.View.{view, code}
use Rattle.client.specs.Ranges.{ranged, in_range, refusal}
use Rattle.client.specs.Inner.{Part, GoodCall}
use Rattle.client.specs.Contract.{answer, refused, call_check, called, opened, granted_on, granted_at, begun, moving, sought_to, shaken_at, ended_at, after, outcome_of, Drives}
use Rattle.client.specs.History.{Ask, to_shake, to_read, to_write, to_trim, to_flush, to_resize, to_seek, to_end, answered, Reached, at_first, by_call, by_step}
use Rattle.client.specs.declared.state.Device.{Device}
use Rattle.client.specs.declared.state.Call.{Call}
use Rattle.client.specs.declared.state.Call.TheVariants.{Read, Write, Flush, Trim, Resize}
use Rattle.client.specs.declared.state.Outcome.TheVariants.{Open, Succeeded}
use Rattle.client.specs.declared.state.Client.{Client}
use Rattle.client.specs.Answers.{Called, Stepped}
use Rattle.client.specs.declared.refusal.Refusal.{Refusal}
use Rattle.client.proofs.Refusals.{accepted, sound_ranges, sound_lent, call_ranged}
use Rattle.client.proofs.Kept.{sound}
use Rattle.client.proofs.Tidy.{viewed, tidied}

-- ---- one result
pub same_answer : {A : Type 0} {a r r' : A} → r ≡ a → r' ≡ a → r ≡ r'
same_answer p q = p ∙ sym q

pub same_result : {self : Client} {m input room : List ℕ} {r r' : Stepped} {m' m'' room' room'' : List ℕ}
    → Drives self m input room r m' room' → Drives self m input room r' m'' room'' → (r ≡ r') × (m' ≡ m'') × (room' ≡ room'')
same_result {self} {m} {r = r} {r' = r'} {m' = m'} {m'' = m''} {room' = room'} {room'' = room''} p q = go (refusal (length m) self) refl
  where
    go : (n : ℕ) → refusal (length m) self ≡ n → (r ≡ r') × (m' ≡ m'') × (room' ≡ room'')
    go (suc n) e =
        let a = p.refuses λ z. omega (arith, sym e ∙ z) in
        let b = q.refuses λ z. omega (arith, sym e ∙ z) in
        (a.result ∙ sym b.result, a.same_lent ∙ sym b.same_lent, a.same_room ∙ sym b.same_room)
    go zero e =
        let a = p.accepts e in
        let b = q.accepts e in
        let s = same_step a.steps b.steps in
        let v : a.place ≡ b.place = cc s.same_place in
        let whole : ◌≡◌ {A = Stepped} (record { state = r.state; taken = r.taken; given = r.given; outcome = r.outcome }) (record { state = r'.state; taken = r'.taken; given = r'.given; outcome = r'.outcome }) =
        rw (a.state, a.outcome, s.same_taken, s.same_given, v, ← b.state, ← b.outcome) in
        (whole, cc s.same_place, s.same_room)

module _ {self : Client} {m input room : List ℕ} {r : Stepped} {m' room' : List ℕ} (p : Drives self m input room r m' room') where
  pub within : (r.taken ≤ length input) × (r.given ≤ length room) × (length room' ≡ length room)
  within = go (refusal (length m) self) refl
    where
      go : (n : ℕ) → refusal (length m) self ≡ n → (r.taken ≤ length input) × (r.given ≤ length room) × (length room' ≡ length room)
      go zero e = let g = (p.accepts e).steps.goes in (g.within_input, g.within_room, g.whole)
      go (suc n) e =
          let k = p.refuses (λ z. omega (arith, z, e)) in
          let t : r.taken ≡ 0 = ap (λ (x : Stepped). x.taken) k.result in
          let g : r.given ≡ 0 = ap (λ (x : Stepped). x.given) k.result in
          (omega (arith, t), omega (arith, g), ap length k.same_room)

-- ---- a state's client is in range as the state is
coded_range : (x : State) → ranged x ≡ true → in_range (code x) ≡ true
coded_range x h = rw (tidied x, viewed x) h

-- ---- a step
pub goes_on : {self : Client} {m input room : List ℕ} {r : Stepped} {m' room' : List ℕ} → Drives self m input room r m' room'
    → refusal (length m) self ≡ 0 → refusal (length m') r.state ≡ 0
goes_on {self} {m} {r = r} {m' = m'} p e =
    let a = p.accepts e in
    let f = sound a.steps.goes.moves (accepted (length m) self e) in
    rw (a.state, coded_range (after a.place) (sound_ranges (length m') a.place f), viewed (after a.place), sound_lent (length m') a.place f)

pub idle : {self : Client} {m input room : List ℕ} {r : Stepped} {m' room' : List ℕ} → Drives self m input room r m' room'
    → refusal (length m) self ≡ 0 → turn (on (view self) m) ≡ rests
    → (r ≡ record { state = code (after (view self)); taken = 0; given = 0; outcome = outcome_of (view self) }) × (m' ≡ m) × (room' ≡ room)
idle {self} {m} {input} {room} {r} {m'} {room'} p fine e =
    let a = p.accepts fine in
    let g = a.steps.goes in
    let s = resting e g.moves in
    let t : r.taken ≡ 0 = omega (arith, ap length s.0, length-take-le r.taken input g.within_input) in
    let o : r.given ≡ 0 = omega (arith, ap length s.1, length-take-le r.given room' (omega (arith, g.within_room, g.whole))) in
    let x : a.place ≡ view self = cc s.2 in
    let whole : ◌≡◌ {A = Stepped} (record { state = r.state; taken = r.taken; given = r.given; outcome = r.outcome }) (record { state = code (after (view self)); taken = 0; given = 0; outcome = outcome_of (view self) }) =
    rw (a.state, a.outcome, t, o, x) in
    (whole, cc s.2, rw o at g.rest)

step_range : {self : Client} {m input room : List ℕ} {r : Stepped} {m' room' : List ℕ} → Drives self m input room r m' room'
    → in_range self ≡ true → in_range r.state ≡ true
step_range {self} {m} {r = r} {m' = m'} p h = go (refusal (length m) self) refl
  where
    go : (n : ℕ) → refusal (length m) self ≡ n → in_range r.state ≡ true
    go (suc n) e = rw (p.refuses (λ z. omega (arith, sym e ∙ z))).result h
    go zero e =
        let a = p.accepts e in
        let f = sound a.steps.goes.moves (accepted (length m) self e) in
        rw a.state (coded_range (after a.place) (sound_ranges (length m') a.place f))

-- ---- the calls
-- what a transfer grants lies within the device, and within what was asked for
transfer_fits : (d : Device) (k n : ℕ) → transfer d k ≡ Some n → (n ≡ 0 → ⊥) → (n ≤ k) × Part d n
unfolding transfer
transfer_fits d k n e some_bytes = go (eqb d.position d.size) (ltb d.size d.position) refl e
  where
    go : (a b : Bool) → ltb d.size d.position ≡ b
        → pick a (Some 0) (pick b None (Some (clamped (min k (d.size - d.position))))) ≡ Some n → (n ≤ k) × Part d n
    go true b p q = absurd (let z : 0 ≡ n = cc in some_bytes (sym z))
    go false true p q = absurd (let z : ◌≡◌ {A = ℕ} 0 1 = cc in omega arith)
    go false false p q =
        let z : clamped (min k (d.size - d.position)) ≡ n = cc in
        (omega arith, (omega arith, omega (arith, ltb-false d.size d.position p)))

opened_range : (d : Device) (c : Call) → GoodCall d c → in_range (opened d c).state ≡ true
opened_range d c h = coded_range (Calling d c (Asking 28)) (rw (call_ranged d c h))

begun_range : (d : Device) (c : Call) → ((amount c ≡ 0 → ⊥) → GoodCall d c) → in_range (begun d c).state ≡ true
begun_range d c h = go (eqb (amount c) 0) refl
  where
    go : (b : Bool) → eqb (amount c) 0 ≡ b → in_range (pick b (answer (Ready d) (Succeeded (value_of c))) (opened d c)).state ≡ true
    go true e = coded_range (Ready d) refl
    go false e = opened_range d c (h (eqb-false (amount c) 0 e))

module _ (s : Client) (h : in_range s ≡ true) where
  called_range : (f : Device → Called) → ((d : Device) → in_range (f d).state ≡ true) → (m : Result Device Refusal) → in_range (called s f m).state ≡ true
  called_range f k (Ok d) = k d
  called_range f k (Err why) = h

  sought_range : (d : Device) (o : Option ℕ) → in_range (sought_to s d o).state ≡ true
  sought_range d None = h
  sought_range d (Some p) = coded_range (Ready (positioned d p)) refl

  moving_range : (f : ℕ → Call) (k : ℕ) → ((d : Device) (n : ℕ) → transfer d k ≡ Some n → (amount (f n) ≡ 0 → ⊥) → GoodCall d (f n))
      → (m : Result Device Refusal) → in_range (moving s f (granted_on k m)).state ≡ true
  moving_range f k ok (Err why) = h
  moving_range f k ok (Ok d) = at (transfer d k) refl
    where
      at : (o : Option ℕ) → transfer d k ≡ o → in_range (moving s f (granted_at d o)).state ≡ true
      at None e = h
      at (Some n) e = begun_range d (f n) (ok d n e)

  shaken_range : (n : ℕ) (x : State) → in_range (shaken_at n s x).state ≡ true
  shaken_range n Blank = go (leb n 4096) refl
    where
      go : (b : Bool) → leb n 4096 ≡ b → in_range (pick b (answer (Shaking n (Magic [])) Open) (refused 44 s)).state ≡ true
      go true e = coded_range (Shaking n (Magic [])) (rw e)
      go false e = h
  shaken_range n (Shaking k p) = h
  shaken_range n (Ready d) = h
  shaken_range n (Calling d c p) = h
  shaken_range n (Closed o d) = h
  shaken_range n (Over k) = h

  ended_range : (x : State) → in_range (ended_at s x).state ≡ true
  ended_range Blank = coded_range (Over 50) refl
  ended_range (Shaking n p) = coded_range (Over 50) refl
  ended_range (Ready d) = coded_range (Over 50) refl
  ended_range (Calling d c p) = coded_range (Over 50) refl
  ended_range (Closed o d) = coded_range (Over 50) refl
  ended_range (Over n) = h

  call_range : (a : Ask) → in_range (answered a s).state ≡ true
  call_range (to_shake n) = rw h (shaken_range n (view s))
  call_range (to_read len) = moving_range (λ n. Read n len) len (λ d n e b. transfer_fits d len n e b) (call_check s)
  call_range (to_write len) = moving_range (λ n. Write n len) len (λ d n e b. transfer_fits d len n e b) (call_check s)
  call_range (to_trim len) = moving_range Trim len (λ d n e b. (transfer_fits d len n e b).1) (call_check s)
  call_range to_flush = called_range (λ d. opened d Flush) (λ d. opened_range d Flush tt) (call_check s)
  call_range (to_resize size) = called_range (λ d. opened d (Resize size)) (λ d. opened_range d (Resize size) tt) (call_check s)
  call_range (to_seek f) = called_range (λ d. sought_to s d (sought d f)) (λ d. sought_range d (sought d f)) (call_check s)
  call_range to_end = rw h (ended_range (view s))

-- ---- for ever
pub in_ranges : {s : Client} → Reached s → in_range s ≡ true
in_ranges at_first = refl
in_ranges (by_call {s = s} a p) = call_range s (in_ranges p) a
in_ranges (by_step p d) = step_range d (in_ranges p)
