-- While the client has something open, a side that can move carries a byte in each step.
--   unsettled   a client that is neither blank nor ready stands in the driver as it is
--   carried     so a move of the machines is one that the code makes
use Prim.Native.Nat.{ℕ}
use mathlib.Core.Path.{◌≡◌, refl, sym, ap, ◌∙◌}
use mathlib.Core.Logic.{◌⊎◌, inl, inr}
use mathlib.Core.Bool.{true}
use mathlib.Core.List.{List}
use native.Mathlib.Omega.{arith}
use Rattle.machine.specs.Machine.{On, on, Turn, gives, takes, rests, owes, wants}
use Rattle.machine.specs.Follows.{through}
use Rattle.machine.specs.Traffic.{Traffic}
use Rattle.machine.specs.Wires.{Sys, Who, Move, client_gives, client_takes, server_gives, server_takes}
use Rattle.machine.proofs.Runs.{gives_some, takes_some}
use Rattle.server.specs.Session.{State, turn as serve}
use Rattle.server.specs.declared.state.Server.{Server}
use Rattle.client.specs.Session as client
use Rattle.client.specs.Session.{turn}
use Rattle.client.specs.View.{view}
use Rattle.client.specs.Ranges.{ranged}
use Rattle.client.specs.declared.state.Client.{Client}
use Rattle.client.specs.declared.state.Device.{Device}
use Rattle.client.proofs.Refusals.{in_range_lem}
use Rattle.client.proofs.Result.{in_ranges}
use Rattle.wire.specs.Results.{Result}
use Rattle.joined.specs.Disk.{Call}
use Rattle.joined.specs.Code.{joint, Unclosed, ClientCarries, ServerCarries}
use Rattle.joined.proofs.Driver.{Driver, busy, settle, drive}
use Rattle.joined.proofs.Coded.{Fit, stands}

owes_through : {X Y : Type 0} (f : X → Y) (t : Turn X) → owes (through f t) ≡ owes t
owes_through f (gives b x) = refl
owes_through f (takes k) = refl
owes_through f rests = refl

wants_through : {X Y : Type 0} (f : X → Y) (t : Turn X) → wants (through f t) ≡ wants t
wants_through f (gives b x) = refl
wants_through f (takes k) = refl
wants_through f rests = refl

unsettled_at : (x : client.State) (m : List ℕ) (ks : List Call) (rs : List Result) → ranged x ≡ true → (x ≡ client.Blank → ⊥) → ((d : Device) → x ≡ client.Ready d → ⊥)
    → settle (on x m) ks rs ≡ busy x m ks rs
unsettled_at client.Blank m ks rs e b h = absurd (b refl)
unsettled_at (client.Shaking n p) m ks rs e b h = refl
unsettled_at (client.Ready d) m ks rs e b h = absurd (h d refl)
unsettled_at (client.Calling d c p) m ks rs e b h = refl
unsettled_at (client.Closed o d) m ks rs e b h = absurd (let z : ◌≡◌ {A = ℕ} 0 1 = cc in omega arith)
unsettled_at (client.Over n) m ks rs e b h = refl

module _ {t : List ℕ} {c : Client} {s : Server} {img : List ℕ} (m : List ℕ) (ks : List Call) (rs : List Result) (fit : Fit t c m s img) (unclosed : Unclosed c) where
  pub unsettled : settle (on (view c) m) ks rs ≡ busy (view c) m ks rs
  unsettled = unsettled_at (view c) m ks rs (in_range_lem c (in_ranges fit.reached)) unclosed.called (λ d e. unclosed.not_ready (record { device = d; rests = e }))

  through_turn : {x : Turn Driver} → drive (settle (on (view c) m) ks rs) ≡ x → through (λ y. settle y ks rs) (turn (on (view c) m)) ≡ x
  through_turn q = ap drive (sym unsettled) ∙ q

  pub carried : {cu cd : ℕ} {u d : List ℕ} {w : Who} {b : Traffic} {y : Sys Driver (On State)}
      → Move drive (serve t) cu cd w b (stands (joint c m ks rs s img u d)) y → ClientCarries cu c m u d ⊎ ServerCarries t cd s img u d
  carried (client_gives q h) =
      inl λ room r m' room' l p. gives_some (p.accepts fit.client_fits).steps (sym (owes_through (λ y. settle y ks rs) (turn (on (view c) m))) ∙ ap owes (through_turn q)) (l h)
  carried (client_takes q) =
      inl λ room r m' room' l p. takes_some (p.accepts fit.client_fits).steps (sym (wants_through (λ y. settle y ks rs) (turn (on (view c) m))) ∙ ap wants (through_turn q)) (omega arith)
  carried (server_gives q h) = inr λ room r img' room' l p. gives_some (p.accepts fit.server_fits).steps (ap owes q) (l h)
  carried (server_takes q) = inr λ room r img' room' l p. takes_some (p.accepts fit.server_fits).steps (ap wants q) (omega arith)
