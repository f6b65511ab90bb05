-- Phases that take nothing, and phases that give nothing, as the code's last arms have them.
--   shaking_wants, serving_wants   a phase is none of those that take, so no byte is wanted
--   serving_owes                   a phase is none of those that give, so no byte is owed
use Prim.Native.Nat.{ℕ}
use mathlib.Core.Path.{◌≡◌, refl}
use mathlib.Core.Bool.{Bool, false}
use mathlib.Core.List.{List}
use Rattle.machine.specs.Machine.{on, wants, owes}
use Rattle.wire.specs.declared.table.Export.{Export}
use Rattle.server.specs.Session.{Shaking, Serving, turn}
use Rattle.server.specs.View.{handshake_of, transmission_of}
use Rattle.server.specs.declared.state.Handshake as hs
use Rattle.server.specs.declared.state.Transmission as tr
use Rattle.server.specs.declared.state.Naming.{Naming}
use Rattle.server.specs.declared.state.Passing.{Passing}
use Rattle.server.specs.declared.state.Storing.{Storing}
use Rattle.server.specs.declared.state.Dropping.{Dropping}
use Rattle.server.specs.declared.state.Sending.{Sending}

pub shaking_wants : (t m h : List ℕ) (p : hs.Handshake)
    → ((have : ℕ) → p ≡ hs.Handshake.ClientFlags have → ⊥) → ((z : Bool) (have : ℕ) → p ≡ hs.Handshake.OptionHead z have → ⊥)
    → ((n : Naming) → p ≡ hs.Handshake.Naming n → ⊥) → ((q : Passing) → p ≡ hs.Handshake.Passing q → ⊥)
    → wants (turn t (on (Shaking (handshake_of h p)) m)) ≡ false
shaking_wants t m h (hs.Handshake.Greeting left) a b c d = refl
shaking_wants t m h (hs.Handshake.ClientFlags have) a b c d = absurd (a have refl)
shaking_wants t m h (hs.Handshake.OptionHead z have) a b c d = absurd (b z have refl)
shaking_wants t m h (hs.Handshake.Naming n) a b c d = absurd (c n refl)
shaking_wants t m h (hs.Handshake.Passing q) a b c d = absurd (d q refl)
shaking_wants t m h (hs.Handshake.Listing z left) a b c d = refl
shaking_wants t m h (hs.Handshake.Declining x) a b c d = refl
shaking_wants t m h (hs.Handshake.Aborting left) a b c d = refl
shaking_wants t m h (hs.Handshake.Exporting x) a b c d = refl

module _ (t m h : List ℕ) (e : Export) where
  pub serving_wants : (p : tr.Transmission) → ((have : ℕ) → p ≡ tr.Transmission.Header have → ⊥) → ((s : Storing) → p ≡ tr.Transmission.Storing s → ⊥)
      → ((d : Dropping) → p ≡ tr.Transmission.Dropping d → ⊥) → wants (turn t (on (Serving e (transmission_of h p)) m)) ≡ false
  serving_wants (tr.Transmission.Header have) a b c = absurd (a have refl)
  serving_wants (tr.Transmission.Storing s) a b c = absurd (b s refl)
  serving_wants (tr.Transmission.Dropping d) a b c = absurd (c d refl)
  serving_wants (tr.Transmission.Replying error handle left off len) a b c = refl
  serving_wants (tr.Transmission.Sending s) a b c = refl

  pub serving_owes : (p : tr.Transmission) → ((error handle left off len : ℕ) → p ≡ tr.Transmission.Replying error handle left off len → ⊥) → ((s : Sending) → p ≡ tr.Transmission.Sending s → ⊥)
      → owes (turn t (on (Serving e (transmission_of h p)) m)) ≡ false
  serving_owes (tr.Transmission.Header have) a b = refl
  serving_owes (tr.Transmission.Storing s) a b = refl
  serving_owes (tr.Transmission.Dropping d) a b = refl
  serving_owes (tr.Transmission.Replying error handle left off len) a b = absurd (a error handle left off len refl)
  serving_owes (tr.Transmission.Sending s) a b = absurd (b s refl)
