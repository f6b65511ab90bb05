-- A run that closes all is there, if while something is open there is a move that carries a byte, and no run carries more than so many.
--   closes_there   each run leads on to one that closes all
use Prim.Native.Nat.{ℕ, zero, suc, ◌+◌, ◌≤◌, ◌<◌}
use mathlib.Core.Path.{◌≡◌, refl, sym, ap, ◌∙◌}
use mathlib.Core.Logic.{◌⊎◌, inl, inr}
use mathlib.Core.List.{List, [], ◌∷◌}
use native.Mathlib.Omega.{arith}
use lib.ListN.{length}
use Rattle.machine.specs.Traffic.{Traffic, no_bytes, append, total}
use Rattle.machine.proofs.Traffic.{total_append}
use Rattle.server.specs.declared.state.Server.{Server}
use Rattle.client.specs.Session as client
use Rattle.client.specs.View.{view}
use Rattle.client.specs.Contract.{shaken}
use Rattle.client.specs.declared.state.Client.{Client}
use Rattle.client.specs.declared.state.Device.{Device}
use Rattle.client.specs.Answers.{Called as Answer}
use Rattle.client.proofs.Result.{in_ranges}
use Rattle.wire.specs.Results.{Result}
use Rattle.joined.specs.Disk.{Call}
use Rattle.joined.specs.Code.{Code, joint, calls, Ready, Unclosed, AllClosed, Move, client_step, server_step, shake, call, Runs, stop, move}
use Rattle.joined.proofs.Called.{NotBlank, called_or, still_blank, begun}
use Rattle.joined.proofs.Driving.{not_blank_after}
use Rattle.joined.proofs.Coded.{Fits}
use Rattle.joined.proofs.Runs.{left, runs_then}
use Rattle.joined.proofs.There.{Carrying}

abbrev Called : Code → Type 0
Called (joint c m ks rs s img u d) = view c ≡ client.Blank → ⊥

ready_or : (x : client.State) → ((d : Device) × (x ≡ client.Ready d)) ⊎ ((d : Device) → x ≡ client.Ready d → ⊥)
ready_or client.Blank = inr (λ d e. let z : ◌≡◌ {A = ℕ} 0 1 = cc in omega arith)
ready_or (client.Shaking n p) = inr (λ d e. let z : ◌≡◌ {A = ℕ} 0 1 = cc in omega arith)
ready_or (client.Ready d) = inl (d, refl)
ready_or (client.Calling d c p) = inr (λ d e. let z : ◌≡◌ {A = ℕ} 0 1 = cc in omega arith)
ready_or (client.Closed o d) = inr (λ d e. let z : ◌≡◌ {A = ℕ} 0 1 = cc in omega arith)
ready_or (client.Over n) = inr (λ d e. let z : ◌≡◌ {A = ℕ} 0 1 = cc in omega arith)

-- while something is open no call is made
no_call : {t : List ℕ} {cu cd : ℕ} {b : Traffic} {c : Client} {m : List ℕ} {ks : List Call} {rs : List Result} {s : Server} {img u d : List ℕ} {z : Code}
    → Move t cu cd b (joint c m ks rs s img u d) z → Fits t (joint c m ks rs s img u d) → Unclosed c → (left z ≡ ks) × Called z
no_call (client_step n room r m' room' h p) f o = (refl, λ e. o.called (still_blank p f.client_fits e).0)
no_call (server_step n room r img' room' h p) f o = (refl, o.called)
no_call (shake r e q) f o = absurd (o.called e)
no_call (call k r y e) f o = absurd (o.not_ready y)

module _ {t : List ℕ} {cu cd : ℕ} {x₀ : Code} (most : ℕ) (fit : (b : Traffic) (x : Code) → Runs t cu cd b x₀ x → Fits t x)
    (bounded : (b : Traffic) (x : Code) → Runs t cu cd b x₀ x → total b ≤ most)
    (carrying : (b : Traffic) (c : Client) (m : List ℕ) (ks : List Call) (rs : List Result) (s : Server) (img u d : List ℕ)
    → Runs t cu cd b x₀ (joint c m ks rs s img u d) → Unclosed c → Carrying t cu cd (joint c m ks rs s img u d)) where
  abbrev Closing : Code → Type 0
  Closing x = (b : Traffic) × (z : Code) × Runs t cu cd b x z × AllClosed z

  -- what is to be carried and to be called is less than n
  abbrev Below : ℕ → Type 0
  Below n = (b : Traffic) (x : Code) → Runs t cu cd b x₀ x → Called x → most + length (left x) < n + total b → Closing x

  after_move : (n : ℕ) → Below n → {a b : Traffic} {x z : Code} → Runs t cu cd b x₀ x → Move t cu cd a x z → Called z
      → most + length (left z) < n + (total b + total a) → Closing x
  after_move n more {a} {b} {x} {z} run p called h =
      let sum = total_append b (append a no_bytes) in
      let one = total_append a no_bytes in
      let r = more (append b (append a no_bytes)) z (runs_then run (move p stop)) called (omega (arith, sum, one)) in
      (append a r.0, r.1, move p r.2, r.3)

  module _ (n : ℕ) (more : Below n) {b : Traffic} (c : Client) (m : List ℕ) (rs : List Result) (s : Server) (img u d : List ℕ) where
    ready_on : (ks : List Call) → Runs t cu cd b x₀ (joint c m ks rs s img u d) → Ready c → most + length ks ≤ n + total b → Closing (joint c m ks rs s img u d)
    ready_on [] run i h = (no_bytes, joint c m [] rs s img u d, stop, (refl, i))
    ready_on (k ∷ ks) run i h =
        let called = not_blank_after k c i.device i.rests (in_ranges (fit b (joint c m (k ∷ ks) rs s img u d) run).reached) in
        after_move n more run (call k (calls k c) i refl) (λ e. rw e at called) (omega arith)

    open_on : (ks : List Call) → Runs t cu cd b x₀ (joint c m ks rs s img u d) → Unclosed c → most + length ks ≤ n + total b → Closing (joint c m ks rs s img u d)
    open_on ks run o h =
        let w = carrying b c m ks rs s img u d run o in
        let k = no_call w.2 (fit b (joint c m ks rs s img u d) run) o in
        after_move n more run w.2 k.1 (omega (arith, w.3, ap length k.0))

  on_from : (n : ℕ) → Below n → (b : Traffic) (x : Code) → Runs t cu cd b x₀ x → Called x → most + length (left x) ≤ n + total b → Closing x
  on_from n more b (joint c m ks rs s img u d) run called h = by (ready_or (view c))
    where
      by : ((e : Device) × (view c ≡ client.Ready e)) ⊎ ((e : Device) → view c ≡ client.Ready e → ⊥) → Closing (joint c m ks rs s img u d)
      by (inl w) = ready_on n more c m rs s img u d ks run (record { device = w.0; rests = w.1 }) h
      by (inr not_so) = open_on n more c m rs s img u d ks run (record { called = called; not_ready = λ i. not_so i.device i.rests }) h

  closes : (n : ℕ) (b : Traffic) (x : Code) → Runs t cu cd b x₀ x → Called x → most + length (left x) ≤ n + total b → Closing x
  closes zero = on_from zero (λ b x run called h. absurd (omega (arith, bounded b x run)))
  closes (suc n) = on_from (suc n) (λ b x run called h. closes n b x run called (omega arith))

  pub closes_there : (b : Traffic) (x : Code) → Runs t cu cd b x₀ x → Closing x
  closes_there b (joint c m ks rs s img u d) run = by (called_or (view c))
    where
      by : (view c ≡ client.Blank) ⊎ NotBlank (view c) → Closing (joint c m ks rs s img u d)
      by (inl e) =
          let f = fit b (joint c m ks rs s img u d) run in
          let g = ap (λ (r : Answer). view r.state) (begun c (length m) e (in_ranges f.reached) (f.name_fits e)) in
          after_move (suc (most + length ks)) (λ a y q o h. closes (most + length ks) a y q o (omega arith)) run (shake (shaken (length m) c) e refl)
          (λ q. let z : ◌≡◌ {A = ℕ} 0 1 = cc (sym g ∙ q) in omega arith) (omega arith)
      by (inr h) = closes (most + length ks) b (joint c m ks rs s img u d) run (λ e. rw e at h) (omega arith)
