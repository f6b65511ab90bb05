-- Where something is left, the state that follows is the state itself. One law for each of them, by its name.
use Prim.Native.Nat.{ℕ, zero, suc}
use mathlib.Core.Path.{◌≡◌, refl}
use mathlib.Core.Bool.{Bool}
use Rattle.client.specs.Session.{Newstyle, Hello, Naming, Filler, Asking, Paying, Filling, Shaking, Calling, naming, greeting, newstyle, filler, filling, paying, after_request}
use Rattle.client.specs.declared.state.Device.{Device}
use Rattle.client.specs.declared.state.Call.{Call}

module _ (n : ℕ) where
  pub naming_more : (left : ℕ) → (left ≡ 0 → ⊥) → Shaking n (Naming left) ≡ naming n left
  naming_more zero h = absurd (h refl)
  naming_more (suc left) h = refl

  pub greeting_more : (left : ℕ) → (left ≡ 0 → ⊥) → Shaking n (Hello left) ≡ greeting n left
  greeting_more zero h = absurd (h refl)
  greeting_more (suc left) h = refl

  pub newstyle_more : (left : ℕ) → (left ≡ 0 → ⊥) → Shaking n (Newstyle left) ≡ newstyle n left
  newstyle_more zero h = absurd (h refl)
  newstyle_more (suc left) h = refl

  pub filler_more : (size flags : ℕ) (clean : Bool) (left : ℕ) → (left ≡ 0 → ⊥) → Shaking n (Filler size flags clean left) ≡ filler n size flags clean left
  filler_more size flags clean zero h = absurd (h refl)
  filler_more size flags clean (suc left) h = refl

module _ (d : Device) (c : Call) where
  pub filling_more : (left : ℕ) → (left ≡ 0 → ⊥) → Calling d c (Filling left) ≡ filling d c left
  filling_more zero h = absurd (h refl)
  filling_more (suc left) h = refl

  pub paying_more : (left : ℕ) → (left ≡ 0 → ⊥) → Calling d c (Paying left) ≡ paying d c left
  paying_more zero h = absurd (h refl)
  paying_more (suc left) h = refl

  pub asking_more : (left : ℕ) → (left ≡ 0 → ⊥) → Calling d c (Asking left) ≡ after_request d c left
  asking_more zero h = absurd (h refl)
  asking_more (suc left) h = refl
