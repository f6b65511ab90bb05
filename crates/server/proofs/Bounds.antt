-- What the ranges give: the bounds that the code leans on.
--   between_true, some_within   of the tests
--   ..-some, ..-bounds          of the phases
--   head_below                  of a header that is not whole
--   good_serving, accepted      of a state that a step accepts
use Prim.Native.Nat.{ℕ, ◌+◌, ◌≤◌, ◌<◌}
use mathlib.Core.Path.{◌≡◌, refl, ◌∙◌}
use mathlib.Core.Bool.{Bool, true, false, not}
use mathlib.Core.List.{List}
use native.Mathlib.Omega.{arith}
use borrow.Author.Tests.{not-true, ltb-true, leb-true}
use lib.Dec.{eqb, ltb, leb}
use lib.ListN.{length, take}
use Rattle.machine.specs.Choice.{pick, both, between}
use Rattle.wire.specs.Constants.{NBD_OPT_EXPORT_NAME}
use Rattle.wire.specs.Table.{read_only}
use Rattle.wire.specs.declared.table.Export.{Export}
use Rattle.wire.proofs.Tests.{both_left, both_right}
use Rattle.server.specs.Session.{Transmission, Serving}
use Rattle.server.specs.Ranges.{unsupported, part, behind, ranged_serving, ranged, tidy, in_range, window_fault, loan_fault, refusal}
use Rattle.server.specs.Inner.{Good}
use Rattle.server.specs.View.{view}
use Rattle.server.specs.declared.state.Server.{Server}
use Rattle.server.proofs.Tests.{head_short}

pub between_true : (lo hi n : ℕ) → between lo hi n ≡ true → (lo ≤ n) × (n ≤ hi)
between_true lo hi n e = (leb-true lo n (both_left (leb lo n) (leb n hi) e), leb-true n hi (both_right (leb lo n) (leb n hi) e))

pub some_within : (off left n : ℕ) → both (ltb 0 left) (leb (off + left) n) ≡ true → (0 < left) × (off + left ≤ n)
some_within off left n e =
    (ltb-true 0 left (both_left (ltb 0 left) (leb (off + left) n) e), leb-true (off + left) n (both_right (ltb 0 left) (leb (off + left) n) e))

-- ---- of the phases
pub passing_bounds : (option len left : ℕ) → both (not (eqb option NBD_OPT_EXPORT_NAME)) (both (between 1 len left) (leb len 100000)) ≡ true
    → (eqb option NBD_OPT_EXPORT_NAME ≡ false) × (left ≤ len) × (len ≤ 100000) × (0 < left)
passing_bounds option len left e =
    let b = both_right (not (eqb option NBD_OPT_EXPORT_NAME)) (both (between 1 len left) (leb len 100000)) e in
    let w = between_true 1 len left (both_left (between 1 len left) (leb len 100000) b) in
    let o = not-true (eqb option NBD_OPT_EXPORT_NAME) (both_left (not (eqb option NBD_OPT_EXPORT_NAME)) (both (between 1 len left) (leb len 100000)) e) in
    (o, w.1, leb-true len 100000 (both_right (between 1 len left) (leb len 100000) b), w.0)

pub declining_bounds : (option left : ℕ) → both (unsupported option) (between 1 20 left) ≡ true → (0 < left) × (left ≤ 20)
declining_bounds option left e = between_true 1 20 left (both_right (unsupported option) (between 1 20 left) e)

pub exporting_bounds : (flags n left : ℕ) → both (ltb flags 16) (between 1 n left) ≡ true → (0 < left) × (left ≤ n)
exporting_bounds flags n left e = between_true 1 n left (both_right (ltb flags 16) (between 1 n left) e)

pub storing_bounds : (e : Export) (off left : ℕ) → both (not (read_only e.flags)) (part e off left) ≡ true → (0 < left) × (off + left ≤ e.size)
storing_bounds e off left h = some_within off left e.size (both_right (not (read_only e.flags)) (part e off left) h)

pub replying_bounds : (e : Export) (error left off len : ℕ) → both (between 1 16 left) (behind e error off len) ≡ true → (0 < left) × (left ≤ 16)
replying_bounds e error left off len h = between_true 1 16 left (both_left (between 1 16 left) (behind e error off len) h)

pub head_below : (h : List ℕ) (have k : ℕ) → length h ≡ 28 → k ≤ 28 → ltb (length (take have h)) k ≡ true → have < k
head_below h have k long fits e = ltb-true have k (head_short h have k long fits ∙ e)

inside : (n : ℕ) (e : Export) → window_fault n e ≡ 0 → e.start + e.size ≤ n
inside n e h = go (leb (e.start + e.size) n) refl h
  where
    go : (b : Bool) → leb (e.start + e.size) n ≡ b → pick {A = ℕ} b 0 26 ≡ 0 → e.start + e.size ≤ n
    go true p q = leb-true _ _ p
    go false p q = absurd (omega arith)

pub good_serving : {t : List ℕ} {n : ℕ} {e : Export} {p : Transmission} → Good t n (Serving e p) → (ranged_serving e p ≡ true) × (e.start + e.size ≤ n)
good_serving {n = n} {e = e} {p = p} g = (both_right (ltb e.flags 16) (ranged_serving e p) g.within, inside n e g.fits)

-- a step that is not refused starts from a state that it accepts
pub accepted : (t : List ℕ) (n : ℕ) (s : Server) → refusal t n s ≡ 0 → Good t n (view s)
accepted t n s e = go (in_range s) refl e
  where
    go : (b : Bool) → in_range s ≡ b → pick b (loan_fault t n (view s)) 27 ≡ 0 → Good t n (view s)
    go true p q = record { within = both_right (tidy s) (ranged (view s)) p; fits = q }
    go false p q = absurd (omega arith)
