-- Where something is left, a phase that follows is the phase itself: one law for each of `greeted` .. `dropping`.
use Prim.Native.Nat.{ℕ, zero, suc}
use mathlib.Core.Path.{◌≡◌, refl}
use mathlib.Core.Bool.{Bool}
use mathlib.Core.List.{List}
use Rattle.wire.specs.declared.utf8.Utf8.{Utf8}
use Rattle.wire.specs.declared.table.Export.{Export}
use Rattle.server.specs.Session.{Greeting, Naming, Passing, Listing, Declining, Aborting, Exporting, Storing, Dropping, Replying, Sending, Shaking, Serving}
use Rattle.server.specs.Session.{greeted, listing, declining, aborting, exporting, passing, naming, sending, replying, storing, dropping}

pub greeted_more : (l : ℕ) → (l ≡ 0 → ⊥) → Shaking (Greeting l) ≡ greeted l
greeted_more zero h = absurd (h refl)
greeted_more (suc l) h = refl

pub listing_more : (z : Bool) (l : ℕ) → (l ≡ 0 → ⊥) → Shaking (Listing z l) ≡ listing z l
listing_more z zero h = absurd (h refl)
listing_more z (suc l) h = refl

pub declining_more : (z : Bool) (option l : ℕ) → (l ≡ 0 → ⊥) → Shaking (Declining z option l) ≡ declining z option l
declining_more z option zero h = absurd (h refl)
declining_more z option (suc l) h = refl

pub aborting_more : (l : ℕ) → (l ≡ 0 → ⊥) → Shaking (Aborting l) ≡ aborting l
aborting_more zero h = absurd (h refl)
aborting_more (suc l) h = refl

pub exporting_more : (z : Bool) (e : Export) (l : ℕ) → (l ≡ 0 → ⊥) → Shaking (Exporting z e l) ≡ exporting z e l
exporting_more z e zero h = absurd (h refl)
exporting_more z e (suc l) h = refl

pub passing_more : (z : Bool) (option len l : ℕ) → (l ≡ 0 → ⊥) → Shaking (Passing z option len l) ≡ passing z option len l
passing_more z option len zero h = absurd (h refl)
passing_more z option len (suc l) h = refl

pub naming_more : (z : Bool) (t : List ℕ) (fits : List Bool) (text : Utf8) (at l : ℕ) → (l ≡ 0 → ⊥) → Shaking (Naming z fits text at l) ≡ naming z t fits text at l
naming_more z t fits text at zero h = absurd (h refl)
naming_more z t fits text at (suc l) h = refl

pub sending_more : (e : Export) (off l : ℕ) → (l ≡ 0 → ⊥) → Serving e (Sending off l) ≡ sending e off l
sending_more e off zero h = absurd (h refl)
sending_more e off (suc l) h = refl

pub storing_more : (e : Export) (handle off l : ℕ) → (l ≡ 0 → ⊥) → Serving e (Storing handle off l) ≡ storing e handle off l
storing_more e handle off zero h = absurd (h refl)
storing_more e handle off (suc l) h = refl

pub dropping_more : (e : Export) (error handle l : ℕ) → (l ≡ 0 → ⊥) → Serving e (Dropping error handle l) ≡ dropping e error handle l
dropping_more e error handle zero h = absurd (h refl)
dropping_more e error handle (suc l) h = refl

pub replying_more : (e : Export) (error handle l off len : ℕ) → (l ≡ 0 → ⊥) → Serving e (Replying error handle l off len) ≡ replying e error handle l off len
replying_more e error handle zero off len h = absurd (h refl)
replying_more e error handle (suc l) off len h = refl
