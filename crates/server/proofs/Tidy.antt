-- A server is the one struct of its state, where the bytes that are not in use are 0.
--   stands_for   a state's struct stands for the state
--   Digits       what its type says of a phase's set: its number has 32 bits; over_digits: an ended session has none
--   coded        the struct of a state, by its phase and the bytes in use
--   copied       the bytes in use, copied over zeros, are that struct
--   used_fits    a state within its ranges uses no more than the array has
--   in_range_lem     a state's struct is within its ranges where the state is
use Prim.Native.Nat.{ℕ, ◌-◌, ◌^◌, ◌≤◌, ◌<◌}
use mathlib.Core.Path.{◌≡◌, refl, ap, ◌∙◌}
use mathlib.Core.Bool.{Bool, true}
use mathlib.Core.List.{List, ◌++◌}
use native.Mathlib.Omega.{arith}
use lib.ListN.{length, take, drop, replicate}
use lib.Seq.{length-take-le, take-append_seam, drop-append_seam}
use Rattle.machine.proofs.Lists.{drop_replicate}
use Rattle.wire.specs.declared.table.Export.{Export}
use Rattle.wire.proofs.Tests.{both_left, both_right}
use Rattle.wire.proofs.Words.{bits_word, word_bits}
use Rattle.machine.specs.Parts.{blank}
use Rattle.server.specs.Session.{Greeting, ClientFlags, OptionHead, Naming, Passing, Listing, Declining, Aborting, Exporting}
use Rattle.server.specs.Session.{Header, Storing, Dropping, Replying, Sending, State, Shaking, Serving, Over}
use Rattle.server.specs.View.{handshake_of, transmission_of, view_of, view, code}
use Rattle.server.specs.View.{used_shaking, used_serving, used}
use Rattle.server.specs.Ranges.{ranged_shaking, ranged_serving, ranged, in_range}
use Rattle.server.specs.declared.state.Handshake as hs
use Rattle.server.specs.declared.state.Transmission as tr
use Rattle.server.specs.declared.state.Phase as ph
use Rattle.server.specs.declared.state.Server.{Server}
use Rattle.server.proofs.Bounds.{head_below}
use Rattle.machine.proofs.Zeros.{blank_zeros}
use lib.Dec.{eqb, ltb}
use borrow.Author.Tests.{eqb-true}

-- ---- the number of a set, which is 32 bits wide
abbrev DigitsShaking : hs.Handshake → Type 0
DigitsShaking (hs.Handshake.Greeting left) = Unit {0}
DigitsShaking (hs.Handshake.ClientFlags have) = Unit {0}
DigitsShaking (hs.Handshake.OptionHead z have) = Unit {0}
DigitsShaking (hs.Handshake.Naming n) = n.fits < 2 ^ 32
DigitsShaking (hs.Handshake.Passing p) = Unit {0}
DigitsShaking (hs.Handshake.Listing z left) = Unit {0}
DigitsShaking (hs.Handshake.Declining d) = Unit {0}
DigitsShaking (hs.Handshake.Aborting left) = Unit {0}
DigitsShaking (hs.Handshake.Exporting x) = Unit {0}

abbrev pub Digits : ph.Phase → Type 0
Digits (ph.Phase.Shaking p) = DigitsShaking p
Digits (ph.Phase.Serving e p) = Unit {0}
Digits (ph.Phase.Over n) = Unit {0}

pub over_digits : (h : List ℕ) (p : ph.Phase) {n : ℕ} → view_of h p ≡ Over n → Digits p
over_digits h (ph.Phase.Shaking p) e = absurd (let z : ◌≡◌ {A = ℕ} 0 1 = cc in omega arith)
over_digits h (ph.Phase.Serving x p) e = tt
over_digits h (ph.Phase.Over n) e = tt

-- ---- the struct of a phase's state
module _ (h : List ℕ) (long : length h ≡ 28) where
  coded_shaking : (p : hs.Handshake) → used_shaking p ≤ 28 → DigitsShaking p
      → code (Shaking (handshake_of h p)) ≡ record { phase = ph.Phase.Shaking p; head = take (used_shaking p) h ++ replicate (28 - used_shaking p) 0 }
  coded_shaking (hs.Handshake.Greeting left) q d = refl
  coded_shaking (hs.Handshake.ClientFlags have) q d = rw (length-take-le have h (omega arith))
  coded_shaking (hs.Handshake.OptionHead z have) q d = rw (length-take-le have h (omega arith))
  coded_shaking (hs.Handshake.Naming n) q d = rw (word_bits 32 n.fits d)
  coded_shaking (hs.Handshake.Passing p) q d = refl
  coded_shaking (hs.Handshake.Listing z left) q d = refl
  coded_shaking (hs.Handshake.Declining x) q d = refl
  coded_shaking (hs.Handshake.Aborting left) q d = refl
  coded_shaking (hs.Handshake.Exporting x) q d = refl

  coded_serving : (e : Export) (p : tr.Transmission) → used_serving p ≤ 28
      → code (Serving e (transmission_of h p)) ≡ record { phase = ph.Phase.Serving e p; head = take (used_serving p) h ++ replicate (28 - used_serving p) 0 }
  coded_serving e (tr.Transmission.Header have) q = rw (length-take-le have h (omega arith))
  coded_serving e (tr.Transmission.Storing p) q = refl
  coded_serving e (tr.Transmission.Dropping p) q = refl
  coded_serving e (tr.Transmission.Replying error handle left off len) q = refl
  coded_serving e (tr.Transmission.Sending s) q = refl

  pub coded : (p : ph.Phase) → used p ≤ 28 → Digits p → code (view_of h p) ≡ record { phase = p; head = take (used p) h ++ replicate (28 - used p) 0 }
  coded (ph.Phase.Shaking p) q d = coded_shaking p q d
  coded (ph.Phase.Serving e p) q d = coded_serving e p q
  coded (ph.Phase.Over n) q d = refl

  pub copied : (p : ph.Phase) (k : ℕ) {l : List ℕ} → used p ≤ 28 → Digits p → k ≡ used p → l ≡ take k h ++ drop k (replicate 28 0)
      → ◌≡◌ {A = Server} (record { phase = p; head = l }) (code (view_of h p))
  copied p k q d e f = rw (f, e, coded p q d, drop_replicate 28 (used p) 0)

  -- ---- how much a phase uses
  below : (have k : ℕ) → k ≤ 28 → ltb (length (take have h)) k ≡ true → have ≤ 28
  below have k fits e = let b = head_below h have k long fits e in omega arith

  fits_shaking : (p : hs.Handshake) → ranged_shaking (handshake_of h p) ≡ true → used_shaking p ≤ 28
  fits_shaking (hs.Handshake.Greeting left) e = omega arith
  fits_shaking (hs.Handshake.ClientFlags have) e = below have 4 (omega arith) e
  fits_shaking (hs.Handshake.OptionHead z have) e = below have 16 (omega arith) e
  fits_shaking (hs.Handshake.Naming n) e = omega arith
  fits_shaking (hs.Handshake.Passing p) e = omega arith
  fits_shaking (hs.Handshake.Listing z left) e = omega arith
  fits_shaking (hs.Handshake.Declining d) e = omega arith
  fits_shaking (hs.Handshake.Aborting left) e = omega arith
  fits_shaking (hs.Handshake.Exporting x) e = omega arith

  fits_serving : (x : Export) (p : tr.Transmission) → ranged_serving x (transmission_of h p) ≡ true → used_serving p ≤ 28
  fits_serving x (tr.Transmission.Header have) e = below have 28 (omega arith) e
  fits_serving x (tr.Transmission.Storing p) e = omega arith
  fits_serving x (tr.Transmission.Dropping p) e = omega arith
  fits_serving x (tr.Transmission.Replying error handle left off len) e = omega arith
  fits_serving x (tr.Transmission.Sending s) e = omega arith

  pub used_fits : (p : ph.Phase) → ranged (view_of h p) ≡ true → used p ≤ 28
  used_fits (ph.Phase.Shaking p) e = fits_shaking p e
  used_fits (ph.Phase.Serving x p) e = fits_serving x p (both_right (ltb x.flags 16) (ranged_serving x (transmission_of h p)) e)
  used_fits (ph.Phase.Over n) e = omega arith

-- ---- a state's struct stands for it
seam : (got : List ℕ) → take (length got) (got ++ replicate (28 - length got) 0) ≡ got
seam got = take-append_seam got (replicate (28 - length got) 0)

viewed : (x : State) → ranged x ≡ true → view (code x) ≡ x
viewed (Shaking (Greeting left)) h = refl
viewed (Shaking (ClientFlags got)) h = ap (λ (l : List ℕ). Shaking (ClientFlags l)) (seam got)
viewed (Shaking (OptionHead z got)) h = ap (λ (l : List ℕ). Shaking (OptionHead z l)) (seam got)
viewed (Shaking (Naming z fits text at left)) h =
    ap (λ (set : List Bool). Shaking (Naming z set text at left)) (bits_word fits 32 (eqb-true (length fits) 32 (both_left (eqb (length fits) 32) _ h)))
viewed (Shaking (Passing z option len left)) h = refl
viewed (Shaking (Listing z left)) h = refl
viewed (Shaking (Declining z option left)) h = refl
viewed (Shaking (Aborting left)) h = refl
viewed (Shaking (Exporting z e left)) h = refl
viewed (Serving e (Header got)) h = ap (λ (l : List ℕ). Serving e (Header l)) (seam got)
viewed (Serving e (Storing handle off left)) h = refl
viewed (Serving e (Dropping error handle left)) h = refl
viewed (Serving e (Replying error handle left off len)) h = refl
viewed (Serving e (Sending off left)) h = refl
viewed (Over n) h = refl

pub stands_for : {s : Server} (x : State) → ranged x ≡ true → s ≡ code x → view s ≡ x
stands_for x h e = ap view e ∙ viewed x h

-- ---- and is tidy
rest_blank : (got : List ℕ) → blank (drop (length got) (got ++ replicate (28 - length got) 0)) ≡ true
rest_blank got = rw (drop-append_seam got (replicate (28 - length got) 0)) (blank_zeros (28 - length got))

blanked : (x : State) → blank (drop (used (code x).phase) (code x).head) ≡ true
blanked (Shaking (Greeting left)) = refl
blanked (Shaking (ClientFlags got)) = rest_blank got
blanked (Shaking (OptionHead z got)) = rest_blank got
blanked (Shaking (Naming z fits text at left)) = refl
blanked (Shaking (Passing z option len left)) = refl
blanked (Shaking (Listing z left)) = refl
blanked (Shaking (Declining z option left)) = refl
blanked (Shaking (Aborting left)) = refl
blanked (Shaking (Exporting z e left)) = refl
blanked (Serving e (Header got)) = rest_blank got
blanked (Serving e (Storing handle off left)) = refl
blanked (Serving e (Dropping error handle left)) = refl
blanked (Serving e (Replying error handle left off len)) = refl
blanked (Serving e (Sending off left)) = refl
blanked (Over n) = refl

pub in_range_lem : {s : Server} (x : State) → s ≡ code x → ranged x ≡ true → in_range s ≡ true
in_range_lem x e h = rw (e, blanked x, viewed x h) h
