-- What is refused, and what is not.
--   accepted       a client that a step does not refuse stands for a sound state
--   ranges_sound   a state in range, with what it is lent, is sound
--   sound_ranges   a sound state is in range where the client is handed back
--   sound_lent     and what is lent has the right length
--   in_range_lem       a client in range stands for a state in range
use Prim.Native.Nat.{ℕ, ◌+◌}
use mathlib.Core.Path.{◌≡◌, refl}
use mathlib.Core.Bool.{Bool, true, false}
use native.Mathlib.Omega.{arith}
use borrow.Author.Tests.{leb-true, ltb-true, eqb-true, le-leb, lt-ltb, eq-eqb}
use Rattle.machine.specs.Choice.{pick, both, between}
use Rattle.client.specs.Session.{Handshake, Magic, Style, Newstyle, Hello, Naming, SizeAndFlags, Filler, Progress, Asking, Paying, Hearing, Filling, State, Blank, Shaking, Ready, Calling, Closed, Over}
use Rattle.client.specs.View.{view}
use Rattle.client.specs.Ranges.{ranged_shaking, part, ranged_call, ranged_progress, ranged, tidy, in_range, lent_to, same_loan, refusal}
use Rattle.client.specs.Inner.{Some, Part, GoodShaking, GoodCall, GoodProgress, Good}
use Rattle.client.specs.Contract.{after}
use Rattle.client.specs.declared.state.Device.{Device}
use Rattle.client.specs.declared.state.Call.{Call}
use Rattle.client.specs.declared.state.Call.TheVariants.{Read, Write, Flush, Trim, Resize}
use Rattle.client.specs.declared.state.Client.{Client}

both_true : (a b : Bool) → both a b ≡ true → (a ≡ true) × (b ≡ true)
both_true true b e = (refl, e)
both_true false b e = absurd (let z : ◌≡◌ {A = ℕ} 0 1 = cc in omega arith)

-- ---- the test of the code, which subtracts
-- ---- a state in range is sound
some_true : (most left : ℕ) → between 1 most left ≡ true → Some most left
some_true most left e = let b = both_true _ _ e in (leb-true _ _ b.0, leb-true _ _ b.1)

fits_true : (d : Device) (n : ℕ) → part d n ≡ true → Part d n
fits_true d n e = let b = both_true _ _ e in (ltb-true _ _ b.0, leb-true _ _ b.1)

shaking_sound : (n : ℕ) (p : Handshake) → ranged_shaking n p ≡ true → GoodShaking n p
shaking_sound n (Magic got) e = ltb-true _ _ e
shaking_sound n (Style got) e = ltb-true _ _ e
shaking_sound n (Newstyle left) e = some_true _ _ e
shaking_sound n (Hello left) e = some_true _ _ e
shaking_sound n (Naming left) e = some_true _ _ e
shaking_sound n (SizeAndFlags old got) e = ltb-true _ _ e
shaking_sound n (Filler size flags clean left) e = some_true _ _ e

call_sound : (d : Device) (c : Call) → ranged_call d c ≡ true → GoodCall d c
call_sound d (Read n len) e = let b = both_true _ _ e in (leb-true _ _ b.0, fits_true d n b.1)
call_sound d (Write n len) e = let b = both_true _ _ e in (leb-true _ _ b.0, fits_true d n b.1)
call_sound d Flush e = tt
call_sound d (Trim n) e = fits_true d n e
call_sound d (Resize size) e = tt

progress_sound : (c : Call) (p : Progress) → ranged_progress c p ≡ true → GoodProgress c p
progress_sound c (Asking left) e = some_true _ _ e
progress_sound c (Paying left) e = some_true _ _ e
progress_sound c (Hearing got) e = ltb-true _ _ e
progress_sound c (Filling left) e = some_true _ _ e

pub ranges_sound : (k : ℕ) (x : State) → ranged x ≡ true → same_loan k x ≡ true → Good k x
ranges_sound k Blank e l = tt
ranges_sound k (Shaking n p) e l = let b = both_true _ _ e in (eqb-true _ _ l, leb-true _ _ b.0, shaking_sound n p b.1)
ranges_sound k (Ready d) e l = tt
ranges_sound k (Calling d c p) e l = let b = both_true _ _ e in (eqb-true _ _ l, call_sound d c b.0, progress_sound c p b.1)
ranges_sound k (Closed o d) e l = tt
ranges_sound k (Over n) e l = e

pub in_range_lem : (s : Client) → in_range s ≡ true → ranged (view s) ≡ true
in_range_lem s e = (both_true (tidy s) (ranged (view s)) e).1

pub accepted : (k : ℕ) (s : Client) → refusal k s ≡ 0 → Good k (view s)
accepted k s e = go (in_range s) (same_loan k (view s)) refl refl e
  where
    go : (a b : Bool) → in_range s ≡ a → same_loan k (view s) ≡ b → pick {A = ℕ} a (pick {A = ℕ} b 0 52) 53 ≡ 0 → Good k (view s)
    go true true p q z = ranges_sound k (view s) (in_range_lem s p) q
    go true false p q z = absurd (omega arith)
    go false b p q z = absurd (omega arith)

-- ---- a sound state is in range
true_some : (most left : ℕ) → Some most left → between 1 most left ≡ true
true_some most left h = rw (le-leb 1 left h.0, le-leb left most h.1)

true_fits : (d : Device) (n : ℕ) → Part d n → part d n ≡ true
true_fits d n h = rw (lt-ltb 0 n h.0, le-leb (d.position + n) d.size h.1)

shaking_ranged : (n : ℕ) (p : Handshake) → GoodShaking n p → ranged_shaking n p ≡ true
shaking_ranged n (Magic got) h = lt-ltb _ _ h
shaking_ranged n (Style got) h = lt-ltb _ _ h
shaking_ranged n (Newstyle left) h = true_some _ _ h
shaking_ranged n (Hello left) h = true_some _ _ h
shaking_ranged n (Naming left) h = true_some _ _ h
shaking_ranged n (SizeAndFlags old got) h = lt-ltb _ _ h
shaking_ranged n (Filler size flags clean left) h = true_some _ _ h

pub call_ranged : (d : Device) (c : Call) → GoodCall d c → ranged_call d c ≡ true
call_ranged d (Read n len) h = rw (le-leb n len h.0) (true_fits d n h.1)
call_ranged d (Write n len) h = rw (le-leb n len h.0) (true_fits d n h.1)
call_ranged d Flush h = refl
call_ranged d (Trim n) h = true_fits d n h
call_ranged d (Resize size) h = refl

progress_ranged : (c : Call) (p : Progress) → GoodProgress c p → ranged_progress c p ≡ true
progress_ranged c (Asking left) h = true_some _ _ h
progress_ranged c (Paying left) h = true_some _ _ h
progress_ranged c (Hearing got) h = lt-ltb _ _ h
progress_ranged c (Filling left) h = true_some _ _ h

pub sound_ranges : (k : ℕ) (x : State) → Good k x → ranged (after x) ≡ true
sound_ranges k Blank h = refl
sound_ranges k (Shaking n p) h = rw (le-leb n 4096 h.1) (shaking_ranged n p h.2)
sound_ranges k (Ready d) h = refl
sound_ranges k (Calling d c p) h = rw (call_ranged d c h.1) (progress_ranged c p h.2)
sound_ranges k (Closed o d) h = refl
sound_ranges k (Over n) h = h

pub sound_lent : (k : ℕ) (x : State) → Good k x → same_loan k (after x) ≡ true
sound_lent k Blank h = refl
sound_lent k (Shaking n p) h = eq-eqb n k h.0
sound_lent k (Ready d) h = refl
sound_lent k (Calling d c p) h = eq-eqb (lent_to c) k h.0
sound_lent k (Closed o d) h = refl
sound_lent k (Over n) h = refl
