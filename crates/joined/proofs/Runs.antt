-- Laws of runs of the code.
--   left, alone   the calls that are left; a place without them
--   runs_then     one run after another
--   Made, made    the calls that a run has made are a first part of those that there were, and it is a run of these alone
use Prim.Native.Nat.{ℕ}
use mathlib.Core.Path.{◌≡◌, refl, ap}
use mathlib.Core.List.{List, [], ◌∷◌, ◌++◌}
use Rattle.machine.specs.Traffic.{Traffic, append}
use Rattle.machine.proofs.Traffic.{append_append}
use Rattle.server.specs.declared.state.Server.{Server}
use Rattle.client.specs.declared.state.Client.{Client}
use Rattle.wire.specs.Results.{Result}
use Rattle.joined.specs.Disk.{Call}
use Rattle.joined.specs.Code.{Code, joint, client_step, server_step, shake, call, Runs, stop, move}

abbrev pub left : Code → List Call
left (joint c m ks rs s img u d) = ks

abbrev pub alone : Code → Code
alone (joint c m ks rs s img u d) = joint c m [] rs s img u d

module _ {t : List ℕ} {cu cd : ℕ} where
  pub runs_then : {a b : Traffic} {x y z : Code} → Runs t cu cd a x y → Runs t cu cd b y z → Runs t cu cd (append a b) x z
  runs_then stop q = q
  runs_then {b = b} (move {a = m} {b = a} e p) q = rw (append_append m a b) (move e (runs_then p q))

module _ (t : List ℕ) (cu cd : ℕ) where
  pub record Made (b : Traffic) (c : Client) (m : List ℕ) (ks : List Call) (rs : List Result) (s : Server) (img u d : List ℕ) (z : Code) : Type 0 where
    pub calls : List Call
    pub parts : ks ≡ calls ++ left z
    pub run : Runs t cu cd b (joint c m calls rs s img u d) (alone z)

module _ {t : List ℕ} {cu cd : ℕ} where
  pub made : {b : Traffic} {c : Client} {m : List ℕ} {ks : List Call} {rs : List Result} {s : Server} {img u d : List ℕ} {z : Code}
      → Runs t cu cd b (joint c m ks rs s img u d) z → Made t cu cd b c m ks rs s img u d z
  made stop = record { calls = []; parts = refl; run = stop }
  made (move (client_step n room r m' room' h p) q) =
      let i = made q in
      record { calls = i.calls; parts = i.parts; run = move (client_step n room r m' room' h p) i.run }
  made (move (server_step n room r img' room' h p) q) =
      let i = made q in
      record { calls = i.calls; parts = i.parts; run = move (server_step n room r img' room' h p) i.run }
  made (move (shake r e f) q) =
      let i = made q in
      record { calls = i.calls; parts = i.parts; run = move (shake r e f) i.run }
  made (move (call k r y f) q) =
      let i = made q in
      record { calls = k ∷ i.calls; parts = ap (λ (l : List Call). k ∷ l) i.parts; run = move (call k r y f) i.run }
