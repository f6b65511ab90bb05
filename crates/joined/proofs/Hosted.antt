-- A fair host's visits of the code are visits of the machines.
--   hosted, rounds   they are, and no step is refused
--   is_ready         where the driver is at its end, the client is ready
--   all_made         and a round later each call was made
use Prim.Native.Nat.{ℕ, suc}
use mathlib.Core.Path.{◌≡◌, refl, sym, ap, ◌∙◌}
use mathlib.Core.Bool.{true}
use mathlib.Core.List.{List, [], ◌++◌}
use native.Mathlib.Omega.{arith}
use lib.ListN.{take, drop}
use Rattle.machine.specs.Machine.{On, on, rests}
use Rattle.machine.specs.Traffic.{Traffic, server_bytes}
use Rattle.machine.specs.Pieces.{Turns}
use Rattle.machine.specs.Wires.{Sys, the_client, Exec, done, next, Stuck}
use Rattle.machine.specs.Rounds as machines
use Rattle.machine.proofs.Runs.{steps_turns}
use Rattle.machine.proofs.Follows.{follows_turns}
use Rattle.machine.proofs.Pieces.{server_goes}
use Rattle.server.specs.Session.{State, turn as serve}
use Rattle.server.specs.declared.state.Server.{Server}
use Rattle.client.specs.Session as client
use Rattle.client.specs.Session.{turn}
use Rattle.client.specs.View.{view}
use Rattle.client.specs.Ranges.{ranged}
use Rattle.client.specs.declared.state.Client.{Client}
use Rattle.client.specs.declared.state.Device.{Device}
use Rattle.client.proofs.Refusals.{in_range_lem}
use Rattle.client.proofs.Result.{in_ranges}
use Rattle.wire.specs.Results.{Result}
use Rattle.joined.specs.Disk.{Call}
use Rattle.joined.specs.Code.{Code, joint, Ready}
use Rattle.joined.specs.Host.{Visits, stop, client_visit, server_visit, shake, call, Rounds, no_round, round}
use Rattle.joined.proofs.Driver.{Driver, over, settle, drive}
use Rattle.joined.proofs.Driving.{followed, already, shaken_already}
use Rattle.joined.proofs.Runs.{left}
use Rattle.joined.proofs.Coded.{Fit, Fits, stands, stepped, fit_step, fit_serve, fit_shake, fit_call}

-- with no call left the driver rests where the client does
at_rest : (x : client.State) (m : List ℕ) (ks : List Call) (rs : List Result) → ranged x ≡ true → (x ≡ client.Blank → ⊥) → ((d : Device) → x ≡ client.Ready d → ks ≡ [])
    → turn (on x m) ≡ rests → drive (settle (on x m) ks rs) ≡ rests
at_rest client.Blank m ks rs f b h e = absurd (b refl)
at_rest (client.Shaking n p) m ks rs f b h e = rw e
at_rest (client.Ready d) m ks rs f b h e = rw (h d refl)
at_rest (client.Calling d c p) m ks rs f b h e = rw e
at_rest (client.Closed o d) m ks rs f b h e = absurd (let z : ◌≡◌ {A = ℕ} 0 1 = cc in omega arith)
at_rest (client.Over n) m ks rs f b h e = refl

-- where the driver is at its end, the client is ready
ready_at : (x : client.State) (m : List ℕ) (ks : List Call) (rs all : List Result) → ranged x ≡ true → settle (on x m) ks rs ≡ over all → (d : Device) × (x ≡ client.Ready d)
ready_at client.Blank m ks rs all f e = absurd (let z : ◌≡◌ {A = ℕ} 0 1 = cc in omega arith)
ready_at (client.Shaking n p) m ks rs all f e = absurd (let z : ◌≡◌ {A = ℕ} 0 1 = cc in omega arith)
ready_at (client.Ready d) m ks rs all f e = (d, refl)
ready_at (client.Calling d c p) m ks rs all f e = absurd (let z : ◌≡◌ {A = ℕ} 0 1 = cc in omega arith)
ready_at (client.Closed o d) m ks rs all f e = absurd (let z : ◌≡◌ {A = ℕ} 0 1 = cc in omega arith)
ready_at (client.Over n) m ks rs all f e = absurd (let z : ◌≡◌ {A = ℕ} 0 1 = cc in omega arith)

pub is_ready : {t : List ℕ} {c : Client} {m : List ℕ} (ks : List Call) (rs all : List Result) {s : Server} {img : List ℕ} → Fit t c m s img
    → settle (on (view c) m) ks rs ≡ over all → Ready c
is_ready {c = c} {m = m} ks rs all f e =
    let w = ready_at (view c) m ks rs all (in_range_lem c (in_ranges f.reached)) e in
    record { device = w.0; rests = w.1 }

stuck_stays : (t : List ℕ) {cu cd : ℕ} {b : Traffic} {x y : Sys Driver (On State)} → Stuck drive (serve t) cu cd x → Exec drive (serve t) cu cd b x y → x ≡ y
stuck_stays t h done = refl
stuck_stays t h (next {a = a} {w = w} {y = y} m p) = absurd (h w a y m)

module _ {t : List ℕ} {cu cd : ℕ} where
  pub hosted : {i j : ℕ} {x z : Code} → Visits t cu cd i j x z → Fits t x → machines.Visits drive (serve t) cu cd i j (stands x) (stands z) × Fits t z
  hosted stop f = (machines.no_visit, f)
  hosted (client_visit {c = c} {m = m} {ks = ks} {rs = rs} {d = d} n room r m' room' any fits h p q) f =
      let a = p.accepts f.client_fits in
      let i = hosted q (fit_step p f) in
      let rest = at_rest (view c) m ks rs (in_range_lem c (in_ranges f.reached)) h.called (λ d e. h.none_left (record { device = d; rests = e })) in
      let g : Turns drive (settle (on (view c) m) ks rs) (take n d) room r.taken r.given (settle (on a.place m') ks rs) room' =
      follows_turns (λ x. settle x ks rs) (followed ks rs) rest (steps_turns a.steps) in
      (machines.client_visit n any fits (rw (stepped ks rs r a.place m' a.state a.outcome) at g) i.0, i.1)
  hosted (server_visit n room r img' room' any fits p q) f =
      let i = hosted q (fit_serve p f) in
      (machines.server_visit n any fits (steps_turns (p.accepts f.server_fits).steps) i.0, i.1)
  hosted (shake {c = c} {m = m} {ks = ks} {rs = rs} r e q h) f =
      let i = hosted h (rw q (fit_shake e f)) in
      (rw (q, shaken_already c m ks rs e (in_ranges f.reached) (f.name_fits e)) at i.0, i.1)
  hosted (call {c = c} {m = m} {ks = ks} {rs = rs} k r y e q) f =
      let i = hosted q (rw e (fit_call k y f)) in
      (rw (e, already k c y.device y.rests (in_ranges f.reached) m ks rs) at i.0, i.1)

  pub rounds : {k : ℕ} {x z : Code} → Rounds t cu cd k x z → Fits t x → machines.Rounds drive (serve t) cu cd k (stands x) (stands z) × Fits t z
  rounds no_round f = (machines.no_round, f)
  rounds (round v r) f =
      let i = hosted v f in
      let j = rounds r i.1 in
      (machines.round i.0 j.0, j.1)

  -- ---- the last calls
  none_more : {i j : ℕ} {x z : Code} → Visits t cu cd i j x z → left x ≡ [] → left z ≡ []
  none_more stop e = e
  none_more (client_visit n room r m' room' any fits h p q) e = none_more q e
  none_more (server_visit n room r img' room' any fits p q) e = none_more q e
  none_more (shake r b f q) e = none_more q e
  none_more (call k r y f q) e = absurd (let z : ◌≡◌ {A = ℕ} 0 1 = cc in omega arith)

  pub all_made : {i j : ℕ} {x z : Code} (all : List Result) → Visits t cu cd (suc i) j x z → Fits t x → Stuck drive (serve t) cu cd (stands x)
      → the_client (stands x) ≡ over all → left z ≡ []
  all_made all (client_visit {ks = ks} {rs = rs} n room r m' room' any fits h p q) f b e = none_more q (h.none_left (is_ready ks rs all f e))
  all_made all (server_visit {c = c} {m = m} {ks = ks} {rs = rs} {s = s} {img = img} {u = u} {d = d} n room r img' room' any fits p q) f b e =
      let g : Exec drive (serve t) cu cd (server_bytes (take r.taken u) (take r.given room')) (stands (joint c m ks rs s img u d))
      (stands (joint c m ks rs r.state img' (drop r.taken u) (d ++ take r.given room'))) =
      server_goes n (p.accepts f.server_fits).steps.goes fits.fits in
      all_made all q (fit_serve p f) (rw (stuck_stays t b g) at b) e
  all_made all (shake {m = m} {ks = ks} {rs = rs} r e q h) f b o =
      absurd (let s = ap (λ (x : client.State). settle (on x m) ks rs) (sym e) ∙ o in let z : ◌≡◌ {A = ℕ} 0 1 = cc s in omega arith)
  all_made all (call {c = c} {m = m} {ks = ks} {rs = rs} k r y e q) f b o =
      let a = already k c y.device y.rests (in_ranges f.reached) m ks rs in
      all_made all q (rw e (fit_call k y f)) (rw (e, a) b) (rw (e, a) o)
