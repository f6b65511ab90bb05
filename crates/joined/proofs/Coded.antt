-- What the contracts of the code say of a run is an execution of the two machines on the wires; and no step of it is refused.
--   Fit         neither side would refuse a step, nor a blank client the handshake
--   stands      the machines that the code stands for
--   fit_step, fit_serve, fit_shake, fit_call   steps and calls keep it
--   move_exec, runs_exec   a move is an execution, and so is a run; both stay fit
use Prim.Native.Nat.{ℕ, ◌≤◌}
use mathlib.Core.Path.{◌≡◌, refl}
use mathlib.Core.List.{List, ◌++◌}
use borrow.Author.Tests.{eq-eqb, le-leb}
use lib.ListN.{length, take, drop}
use Rattle.machine.specs.Machine.{On, on}
use Rattle.machine.specs.Traffic.{Traffic, client_bytes}
use Rattle.machine.specs.Wires.{Sys, sys, Exec, done}
use Rattle.machine.proofs.Follows.{follows_goes}
use Rattle.machine.proofs.Pieces.{exec_then, client_goes, server_goes}
use Rattle.server.specs.Session.{State, turn}
use Rattle.server.specs.View.{view as viewed_server}
use Rattle.server.specs.Ranges.{refusal}
use Rattle.server.specs.Contract.{Serves}
use Rattle.server.specs.declared.state.Server.{Server}
use Rattle.server.specs.Answers as served
use Rattle.server.proofs.Result.{never_refused}
use Rattle.client.specs.View.{view, code}
use Rattle.client.specs.Session as client
use Rattle.client.specs.Ranges.{refusal as why}
use Rattle.client.specs.Contract.{shaken, after, outcome_of, Drives}
use Rattle.client.specs.History.{Ask, to_shake, to_read, to_write, to_trim, to_flush, to_seek, Reached, by_call, by_step}
use Rattle.client.specs.declared.state.Client.{Client}
use Rattle.client.specs.Answers as driven
use Rattle.client.proofs.Tidy.{viewed}
use Rattle.client.proofs.Result.{goes_on, in_ranges}
use Rattle.wire.specs.Results.{Result}
use Rattle.joined.specs.Disk.{Call, read, write, seek, flush, trim}
use Rattle.joined.specs.Code.{Code, joint, seek_from, calls, buffer, collected, Ready, Move, client_step, server_step, shake, call, Runs, stop, move}
use Rattle.joined.proofs.Called.{still_blank, begun}
use Rattle.joined.proofs.Driver.{Driver, settle, drive}
use Rattle.joined.proofs.Driving.{followed, told, lent_after, not_blank_after, already, shaken_already}

-- ---- no step is refused
pub record Fit (t : List ℕ) (c : Client) (m : List ℕ) (s : Server) (img : List ℕ) : Type 0 where
  pub reached : Reached c
  pub client_fits : why (length m) c ≡ 0
  pub name_fits : view c ≡ client.Blank → length m ≤ 4096
  pub server_fits : refusal t (length img) s ≡ 0

abbrev pub Fits : List ℕ → Code → Type 0
Fits t (joint c m ks rs s img u d) = Fit t c m s img

abbrev ask : Call → Ask
ask (read buf) = to_read (length buf)
ask (write buf) = to_write (length buf)
ask (seek f) = to_seek (seek_from f)
ask flush = to_flush
ask (trim k) = to_trim k

asked : {c : Client} (k : Call) → Reached c → Reached (calls k c).state
asked (read buf) p = by_call (ask (read buf)) p
asked (write buf) p = by_call (ask (write buf)) p
asked (seek f) p = by_call (ask (seek f)) p
asked flush p = by_call (ask flush) p
asked (trim k) p = by_call (ask (trim k)) p

module _ {t : List ℕ} where
  pub fit_step : {c : Client} {m : List ℕ} {s : Server} {img input room : List ℕ} {r : driven.Stepped} {m' room' : List ℕ}
      → Drives c m input room r m' room' → Fit t c m s img → Fit t r.state m' s img
  fit_step p f = record {
    reached = by_step f.reached p;
    client_fits = goes_on p f.client_fits;
    name_fits = λ e. let b = still_blank p f.client_fits e in rw b.1 (f.name_fits b.0);
    server_fits = f.server_fits;
  }

  pub fit_serve : {c : Client} {m : List ℕ} {s : Server} {img input room : List ℕ} {r : served.Stepped} {img' room' : List ℕ}
      → Serves s t img input room r img' room' → Fit t c m s img → Fit t c m r.state img'
  fit_serve p f = record { reached = f.reached; client_fits = f.client_fits; name_fits = f.name_fits; server_fits = never_refused p f.server_fits }

  pub fit_shake : {c : Client} {m : List ℕ} {s : Server} {img : List ℕ} → view c ≡ client.Blank → Fit t c m s img → Fit t (shaken (length m) c).state m s img
  fit_shake {c} {m} e f =
      let h = f.name_fits e in
      let b = begun c (length m) e (in_ranges f.reached) h in
      record {
        reached = by_call (to_shake (length m)) f.reached;
        client_fits = rw (b, le-leb (length m) 4096 h, eq-eqb (length m) (length m) refl);
        name_fits = λ _. h;
        server_fits = f.server_fits;
      }

  pub fit_call : {c : Client} {m : List ℕ} {s : Server} {img : List ℕ} (k : Call) → Ready c → Fit t c m s img → Fit t (calls k c).state (buffer k) s img
  fit_call {c} k i f =
      let p = asked k f.reached in
      record {
        reached = p;
        client_fits = rw (in_ranges p, lent_after k c i.device i.rests (in_ranges f.reached));
        name_fits = λ e. absurd (rw e at (not_blank_after k c i.device i.rests (in_ranges f.reached)));
        server_fits = f.server_fits;
      }

-- ---- the machines
abbrev pub stands : Code → Sys Driver (On State)
stands (joint c m ks rs s img u d) = sys (settle (on (view c) m) ks rs) (on (viewed_server s) img) u d

-- where a step of the client leads
pub stepped : (ks : List Call) (rs : List Result) (r : driven.Stepped) (x : client.State) (m : List ℕ) → r.state ≡ code (after x) → r.outcome ≡ outcome_of x
    → settle (on x m) ks rs ≡ settle (on (view r.state) m) ks (collected r.outcome m rs)
stepped ks rs r x m p q = rw (p, q, viewed (after x), told ks rs x m)

module _ {t : List ℕ} {cu cd : ℕ} where
  pub move_exec : {b : Traffic} {x z : Code} → Move t cu cd b x z → Fits t x → Exec drive (turn t) cu cd b (stands x) (stands z) × Fits t z
  move_exec (client_step {c = c} {m = m} {ks = ks} {rs = rs} {s = s} {img = img} {u = u} {d = d} n room r m' room' h p) f =
      let a = p.accepts f.client_fits in
      let g : Exec drive (turn t) cu cd (client_bytes (take r.taken d) (take r.given room')) (sys (settle (on (view c) m) ks rs) (on (viewed_server s) img) u d)
      (sys (settle (on a.place m') ks rs) (on (viewed_server s) img) (u ++ take r.given room') (drop r.taken d)) =
      client_goes n (follows_goes (λ x. settle x ks rs) (followed ks rs) a.steps.goes) h in
      (rw (stepped ks rs r a.place m' a.state a.outcome) at g, fit_step p f)
  move_exec (server_step n room r img' room' h p) f = (server_goes n (p.accepts f.server_fits).steps.goes h, fit_serve p f)
  move_exec (shake {c = c} {m = m} {ks = ks} {rs = rs} r e q) f =
      (rw (q, shaken_already c m ks rs e (in_ranges f.reached) (f.name_fits e)) done, rw q (fit_shake e f))
  move_exec (call {c = c} {m = m} {ks = ks} {rs = rs} k r y e) f =
      (rw (e, already k c y.device y.rests (in_ranges f.reached) m ks rs) done, rw e (fit_call k y f))

  pub runs_exec : {b : Traffic} {x z : Code} → Runs t cu cd b x z → Fits t x → Exec drive (turn t) cu cd b (stands x) (stands z) × Fits t z
  runs_exec stop f = (done, f)
  runs_exec (move p q) f =
      let e = move_exec p f in
      let i = runs_exec q e.1 in
      (exec_then e.0 i.0, i.1)
