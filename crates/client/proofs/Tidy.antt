-- A client is its state's, where the bytes that are not in use are 0.
--   viewed       a state's client stands for it
--   used_fits    a sound state uses at most the 16 bytes
--   copied       the bytes in use, copied over zeros, make the state's client
--   tidied       a state's client has 0 in what is not used
use Prim.Native.Nat.{ℕ, ◌+◌, ◌-◌, ◌≤◌, ◌<◌}
use mathlib.Core.Path.{◌≡◌, refl, ap}
use mathlib.Core.Bool.{true}
use mathlib.Core.List.{List, ◌++◌}
use native.Mathlib.Omega.{arith}
use lib.ListN.{length, take, drop, replicate}
use lib.Seq.{length-take-le, paste, take-append_seam, drop-append_seam}
use Rattle.machine.proofs.Lists.{drop_replicate}
use Rattle.client.specs.Session.{Magic, Style, Newstyle, Hello, Naming, SizeAndFlags, Filler, Asking, Paying, Hearing, Filling, State, Blank, Shaking, Ready, Calling, Closed, Over}
use Rattle.client.specs.View.{view, view_of, code, used}
use Rattle.client.specs.Ranges.{tidy}
use Rattle.client.specs.Inner.{Good}
use Rattle.client.specs.declared.state.Handshake as hs
use Rattle.client.specs.declared.state.Progress as pr
use Rattle.client.specs.declared.state.Phase as ph
use Rattle.client.specs.declared.state.Client.{Client}
use Rattle.client.proofs.Header.{taken_below, terms_most}
use Rattle.machine.proofs.Zeros.{blank_zeros}

coded : (p : ph.Phase) (h : List ℕ) → length h ≡ 16 → used p ≤ 16
    → code (view_of h p) ≡ record { phase = p; head = take (used p) h ++ replicate (16 - used p) 0 }
coded ph.Phase.Blank h long q = refl
coded (ph.Phase.Shaking n (hs.Handshake.Magic have)) h long q = rw (length-take-le have h (omega arith))
coded (ph.Phase.Shaking n (hs.Handshake.Style have)) h long q = rw (length-take-le have h (omega arith))
coded (ph.Phase.Shaking n (hs.Handshake.Newstyle left)) h long q = refl
coded (ph.Phase.Shaking n (hs.Handshake.Hello left)) h long q = refl
coded (ph.Phase.Shaking n (hs.Handshake.Naming left)) h long q = refl
coded (ph.Phase.Shaking n (hs.Handshake.SizeAndFlags old have)) h long q = rw (length-take-le have h (omega arith))
coded (ph.Phase.Shaking n (hs.Handshake.Filler p)) h long q = refl
coded (ph.Phase.Ready d) h long q = refl
coded (ph.Phase.Calling d c (pr.Progress.Asking left)) h long q = refl
coded (ph.Phase.Calling d c (pr.Progress.Paying left)) h long q = refl
coded (ph.Phase.Calling d c (pr.Progress.Hearing have)) h long q = rw (length-take-le have h (omega arith))
coded (ph.Phase.Calling d c (pr.Progress.Filling left)) h long q = refl
coded (ph.Phase.Closed o d) h long q = refl
coded (ph.Phase.Over n) h long q = refl

-- fewer than `to` of the bytes
few : (h : List ℕ) (k to : ℕ) → length h ≡ 16 → to ≤ 16 → length (take k h) < to → k ≤ 16
few h k to long most below = let b = taken_below h k to (omega arith) below in omega arith

pub used_fits : (k : ℕ) (p : ph.Phase) (h : List ℕ) → length h ≡ 16 → Good k (view_of h p) → used p ≤ 16
used_fits k ph.Phase.Blank h long q = omega arith
used_fits k (ph.Phase.Shaking n (hs.Handshake.Magic have)) h long q = few h have 8 long (omega arith) q.2
used_fits k (ph.Phase.Shaking n (hs.Handshake.Style have)) h long q = few h have 8 long (omega arith) q.2
used_fits k (ph.Phase.Shaking n (hs.Handshake.Newstyle left)) h long q = omega arith
used_fits k (ph.Phase.Shaking n (hs.Handshake.Hello left)) h long q = omega arith
used_fits k (ph.Phase.Shaking n (hs.Handshake.Naming left)) h long q = omega arith
used_fits k (ph.Phase.Shaking n (hs.Handshake.SizeAndFlags old have)) h long q = few h have _ long (terms_most old) q.2
used_fits k (ph.Phase.Shaking n (hs.Handshake.Filler p)) h long q = omega arith
used_fits k (ph.Phase.Ready d) h long q = omega arith
used_fits k (ph.Phase.Calling d c (pr.Progress.Asking left)) h long q = omega arith
used_fits k (ph.Phase.Calling d c (pr.Progress.Paying left)) h long q = omega arith
used_fits k (ph.Phase.Calling d c (pr.Progress.Hearing have)) h long q = few h have 16 long (omega arith) q.2
used_fits k (ph.Phase.Calling d c (pr.Progress.Filling left)) h long q = omega arith
used_fits k (ph.Phase.Closed o d) h long q = omega arith
used_fits k (ph.Phase.Over n) h long q = omega arith

-- the bytes gathered, in the array
got_back : (got : List ℕ) → take (length got) (got ++ replicate (16 - length got) 0) ≡ got
got_back got = take-append_seam got (replicate (16 - length got) 0)

pub viewed : (x : State) → view (code x) ≡ x
viewed Blank = refl
viewed (Shaking n (Magic got)) = ap (λ (l : List ℕ). Shaking n (Magic l)) (got_back got)
viewed (Shaking n (Style got)) = ap (λ (l : List ℕ). Shaking n (Style l)) (got_back got)
viewed (Shaking n (Newstyle left)) = refl
viewed (Shaking n (Hello left)) = refl
viewed (Shaking n (Naming left)) = refl
viewed (Shaking n (SizeAndFlags old got)) = ap (λ (l : List ℕ). Shaking n (SizeAndFlags old l)) (got_back got)
viewed (Shaking n (Filler size flags clean left)) = refl
viewed (Ready d) = refl
viewed (Calling d c (Asking left)) = refl
viewed (Calling d c (Paying left)) = refl
viewed (Calling d c (Hearing got)) = ap (λ (l : List ℕ). Calling d c (Hearing l)) (got_back got)
viewed (Calling d c (Filling left)) = refl
viewed (Closed o d) = refl
viewed (Over n) = refl

pub copied : (p : ph.Phase) (h : List ℕ) (k : ℕ) {l : List ℕ} → length h ≡ 16 → used p ≤ 16 → k ≡ used p → l ≡ paste (replicate 16 0) 0 (drop 0 h) k
    → ◌≡◌ {A = Client} (record { phase = p; head = l }) (code (view_of h p))
copied p h k long q e f =
    let z : 0 + used p ≡ used p = omega arith in
    rw (f, e, coded p h long q, z, drop_replicate 16 (used p) 0)

-- the bytes behind those gathered
zeros_behind : (got : List ℕ) → drop (length got) (got ++ replicate (16 - length got) 0) ≡ replicate (16 - length got) 0
zeros_behind got = drop-append_seam got (replicate (16 - length got) 0)

pub tidied : (x : State) → tidy (code x) ≡ true
tidied Blank = refl
tidied (Shaking n (Magic got)) = rw (zeros_behind got) (blank_zeros (16 - length got))
tidied (Shaking n (Style got)) = rw (zeros_behind got) (blank_zeros (16 - length got))
tidied (Shaking n (Newstyle left)) = refl
tidied (Shaking n (Hello left)) = refl
tidied (Shaking n (Naming left)) = refl
tidied (Shaking n (SizeAndFlags old got)) = rw (zeros_behind got) (blank_zeros (16 - length got))
tidied (Shaking n (Filler size flags clean left)) = refl
tidied (Ready d) = refl
tidied (Calling d c (Asking left)) = refl
tidied (Calling d c (Paying left)) = refl
tidied (Calling d c (Hearing got)) = rw (zeros_behind got) (blank_zeros (16 - length got))
tidied (Calling d c (Filling left)) = refl
tidied (Closed o d) = refl
tidied (Over n) = refl
