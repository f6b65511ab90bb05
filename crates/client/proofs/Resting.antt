-- Where no byte is wanted, and where none is owed: by the phase of a handshake, by that of a call, by the client's.
use Prim.Native.Nat.{ℕ}
use mathlib.Core.Path.{◌≡◌, refl}
use mathlib.Core.Bool.{Bool, false}
use mathlib.Core.List.{List}
use Rattle.machine.specs.Machine.{on, wants, owes}
use Rattle.client.specs.Session.{Shaking, Calling, turn}
use Rattle.client.specs.View.{handshake_of, progress_of, view_of}
use Rattle.client.specs.declared.state.Device.{Device}
use Rattle.client.specs.declared.state.Call.{Call}
use Rattle.client.specs.declared.state.Filler.{Filler}
use Rattle.client.specs.declared.state.Handshake as hs
use Rattle.client.specs.declared.state.Progress as pr
use Rattle.client.specs.declared.state.Phase as ph

module _ (n : ℕ) (h m : List ℕ) where
  pub shaking_wants : (p : hs.Handshake) → ((k : ℕ) → p ≡ hs.Handshake.Magic k → ⊥) → ((k : ℕ) → p ≡ hs.Handshake.Style k → ⊥)
      → ((k : ℕ) → p ≡ hs.Handshake.Newstyle k → ⊥) → ((old : Bool) (k : ℕ) → p ≡ hs.Handshake.SizeAndFlags old k → ⊥)
      → ((f : Filler) → p ≡ hs.Handshake.Filler f → ⊥) → wants (turn (on (Shaking n (handshake_of h p)) m)) ≡ false
  shaking_wants (hs.Handshake.Magic k) a b c d e = absurd (a k refl)
  shaking_wants (hs.Handshake.Style k) a b c d e = absurd (b k refl)
  shaking_wants (hs.Handshake.Newstyle k) a b c d e = absurd (c k refl)
  shaking_wants (hs.Handshake.Hello k) a b c d e = refl
  shaking_wants (hs.Handshake.Naming k) a b c d e = refl
  shaking_wants (hs.Handshake.SizeAndFlags old k) a b c d e = absurd (d old k refl)
  shaking_wants (hs.Handshake.Filler f) a b c d e = absurd (e f refl)

  pub shaking_owes : (p : hs.Handshake) → ((k : ℕ) → p ≡ hs.Handshake.Hello k → ⊥) → ((k : ℕ) → p ≡ hs.Handshake.Naming k → ⊥)
      → owes (turn (on (Shaking n (handshake_of h p)) m)) ≡ false
  shaking_owes (hs.Handshake.Magic k) a b = refl
  shaking_owes (hs.Handshake.Style k) a b = refl
  shaking_owes (hs.Handshake.Newstyle k) a b = refl
  shaking_owes (hs.Handshake.Hello k) a b = absurd (a k refl)
  shaking_owes (hs.Handshake.Naming k) a b = absurd (b k refl)
  shaking_owes (hs.Handshake.SizeAndFlags old k) a b = refl
  shaking_owes (hs.Handshake.Filler f) a b = refl

module _ (d : Device) (c : Call) (h m : List ℕ) where
  pub calling_wants : (p : pr.Progress) → ((k : ℕ) → p ≡ pr.Progress.Hearing k → ⊥) → ((k : ℕ) → p ≡ pr.Progress.Filling k → ⊥)
      → wants (turn (on (Calling d c (progress_of h p)) m)) ≡ false
  calling_wants (pr.Progress.Asking k) a b = refl
  calling_wants (pr.Progress.Paying k) a b = refl
  calling_wants (pr.Progress.Hearing k) a b = absurd (a k refl)
  calling_wants (pr.Progress.Filling k) a b = absurd (b k refl)

  pub calling_owes : (p : pr.Progress) → ((k : ℕ) → p ≡ pr.Progress.Asking k → ⊥) → ((k : ℕ) → p ≡ pr.Progress.Paying k → ⊥)
      → owes (turn (on (Calling d c (progress_of h p)) m)) ≡ false
  calling_owes (pr.Progress.Asking k) a b = absurd (a k refl)
  calling_owes (pr.Progress.Paying k) a b = absurd (b k refl)
  calling_owes (pr.Progress.Hearing k) a b = refl
  calling_owes (pr.Progress.Filling k) a b = refl

module _ (h m : List ℕ) where
  pub phase_wants : (p : ph.Phase) → ((n : ℕ) (q : hs.Handshake) → p ≡ ph.Phase.Shaking n q → ⊥)
      → ((d : Device) (c : Call) (q : pr.Progress) → p ≡ ph.Phase.Calling d c q → ⊥) → wants (turn (on (view_of h p) m)) ≡ false
  phase_wants ph.Phase.Blank a b = refl
  phase_wants (ph.Phase.Shaking n q) a b = absurd (a n q refl)
  phase_wants (ph.Phase.Ready d) a b = refl
  phase_wants (ph.Phase.Calling d c q) a b = absurd (b d c q refl)
  phase_wants (ph.Phase.Closed o d) a b = refl
  phase_wants (ph.Phase.Over n) a b = refl

  pub phase_owes : (p : ph.Phase) → ((n : ℕ) (q : hs.Handshake) → p ≡ ph.Phase.Shaking n q → ⊥)
      → ((d : Device) (c : Call) (q : pr.Progress) → p ≡ ph.Phase.Calling d c q → ⊥) → owes (turn (on (view_of h p) m)) ≡ false
  phase_owes ph.Phase.Blank a b = refl
  phase_owes (ph.Phase.Shaking n q) a b = absurd (a n q refl)
  phase_owes (ph.Phase.Ready d) a b = refl
  phase_owes (ph.Phase.Calling d c q) a b = absurd (b d c q refl)
  phase_owes (ph.Phase.Closed o d) a b = refl
  phase_owes (ph.Phase.Over n) a b = refl
