-- The driver's results: they only grow.
--   by_take         the driver comes to its end by a byte taken
--   Prefix, grows   the results so far are the first of those at the end
use Prim.Native.Nat.{ℕ, zero, suc}
use mathlib.Core.Path.{◌≡◌, refl, sym, ap, ◌∙◌}
use mathlib.Core.List.{List, [], ◌∷◌, ◌++◌, append-nil, append_assoc}
use Rattle.machine.specs.Machine.{On, on, Turn, gives, takes, rests, Moves, Kept, Keeps}
use Rattle.machine.specs.Parts.{less}
use Rattle.machine.specs.Follows.{through}
use Rattle.machine.proofs.Moves.{kept}
use Rattle.client.specs.Calls.{payload}
use Rattle.client.specs.Session.{Handshake, Magic, Style, Newstyle, Hello, Naming, SizeAndFlags, Filler, Progress, Asking, Paying, Hearing, Filling}
use Rattle.client.specs.Session.{State, Blank, Shaking, Ready, Calling, Closed, Over, naming, greeting, paying, after_request, turn}
use Rattle.client.specs.declared.state.Device.{Device}
use Rattle.client.specs.declared.state.Call as request
use Rattle.client.specs.declared.state.Outcome.{Outcome}
use Rattle.client.specs.declared.state.Outcome.TheVariants.{Open, Succeeded, Failed, Ended, Refused}
use Rattle.wire.specs.Results.{Result}
use Rattle.joined.specs.Disk.{Call}
use Rattle.joined.specs.Code.{buffer, collected, result_of}
use Rattle.joined.proofs.Driver.{Driver, busy, over, Begun, out, shut, begin, going, next, settle, drive}

-- ---- a byte given leads to no end
abbrev NotOver : Driver → Type 0
NotOver (busy x m ks rs) = Unit {0}
NotOver (over rs) = ⊥

abbrev Given : Turn Driver → Type 0
Given (gives b x) = NotOver x
Given (takes k) = Unit {0}
Given rests = Unit {0}

module _ (m : List ℕ) (ks : List Call) (rs : List Result) where
  naming_busy : (n l : ℕ) → NotOver (settle (on (naming n l) m) ks rs)
  naming_busy n zero = tt
  naming_busy n (suc l) = tt

  greeting_busy : (n l : ℕ) → NotOver (settle (on (greeting n l) m) ks rs)
  greeting_busy n zero = naming_busy n n
  greeting_busy n (suc l) = tt

  paying_busy : (d : Device) (c : request.Call) (l : ℕ) → NotOver (settle (on (paying d c l) m) ks rs)
  paying_busy d c zero = tt
  paying_busy d c (suc l) = tt

  asking_busy : (d : Device) (c : request.Call) (l : ℕ) → NotOver (settle (on (after_request d c l) m) ks rs)
  asking_busy d c zero = paying_busy d c (payload c)
  asking_busy d c (suc l) = tt

  shaking_given : (n : ℕ) (p : Handshake) → Given (drive (busy (Shaking n p) m ks rs))
  shaking_given n (Magic got) = tt
  shaking_given n (Style got) = tt
  shaking_given n (Newstyle left) = tt
  shaking_given n (Hello left) = greeting_busy n (less left)
  shaking_given n (Naming left) = naming_busy n (less left)
  shaking_given n (SizeAndFlags old got) = tt
  shaking_given n (Filler size flags clean left) = tt

  calling_given : (d : Device) (c : request.Call) (p : Progress) → Given (drive (busy (Calling d c p) m ks rs))
  calling_given d c (Asking left) = asking_busy d c (less left)
  calling_given d c (Paying left) = paying_busy d c (less left)
  calling_given d c (Hearing got) = tt
  calling_given d c (Filling left) = tt

given_busy : (x : Driver) → Given (drive x)
given_busy (busy Blank m ks rs) = tt
given_busy (busy (Shaking n p) m ks rs) = shaking_given m ks rs n p
given_busy (busy (Ready d) m ks rs) = tt
given_busy (busy (Calling d c p) m ks rs) = calling_given m ks rs d c p
given_busy (busy (Closed o d) m ks rs) = tt
given_busy (busy (Over n) m ks rs) = tt
given_busy (over rs) = tt

pub by_take : (rs : List Result) (x : Driver) (b : ℕ) → drive x ≡ gives b (over rs) → ⊥
by_take rs x b e = rw e at (given_busy x)

-- ---- results only grow
abbrev pub told : Driver → List Result
told (busy x m ks rs) = rs
told (over rs) = rs

pub record Prefix (rs all : List Result) : Type 0 where
  pub more : List Result
  pub parts : all ≡ rs ++ more

all_of : (rs : List Result) → Prefix rs rs
all_of rs = record { more = []; parts = sym (append-nil rs) }

further : {ps qs rs : List Result} → Prefix ps qs → Prefix qs rs → Prefix ps rs
further {ps} p q = record {
  more = p.more ++ q.more;
  parts = q.parts ∙ ap (λ (l : List Result). l ++ q.more) p.parts ∙ append_assoc ps p.more q.more;
}

collected_grows : (o : Outcome) (buf : List ℕ) (rs : List Result) → Prefix rs (collected o buf rs)
collected_grows Open buf rs = all_of rs
collected_grows (Succeeded v) buf rs = record { more = result_of (Succeeded v) buf ∷ []; parts = refl }
collected_grows (Failed error) buf rs = record { more = result_of (Failed error) buf ∷ []; parts = refl }
collected_grows (Ended n) buf rs = all_of rs
collected_grows (Refused why) buf rs = record { more = result_of (Refused why) buf ∷ []; parts = refl }

next_grows : (ks : List Call) (d : Device) (rs : List Result) → Prefix rs (told (next d ks rs))
next_grows [] d rs = all_of rs
next_grows (k ∷ ks) d rs = go (begin d k) (λ d' rs'. next_grows ks d' rs')
  where
    go : (b : Begun) → ((d' : Device) (rs' : List Result) → Prefix rs' (told (next d' ks rs'))) → Prefix rs (told (going d b (buffer k) ks rs (λ d' rs'. next d' ks rs')))
    go (out c) i = all_of rs
    go (shut o d') i = further (collected_grows o (buffer k) rs) (i d' (collected o (buffer k) rs))

settle_grows : (x : On State) (ks : List Call) (rs : List Result) → Prefix rs (told (settle x ks rs))
settle_grows (on Blank m) ks rs = all_of rs
settle_grows (on (Shaking n p) m) ks rs = all_of rs
settle_grows (on (Ready d) m) ks rs = next_grows ks d rs
settle_grows (on (Calling d c p) m) ks rs = all_of rs
settle_grows (on (Closed o d) m) ks rs = further (collected_grows o m rs) (next_grows ks d (collected o m rs))
settle_grows (on (Over n) m) ks rs = all_of rs

turn_grows : (rs : List Result) (t : Turn (On State)) (ks : List Call) (rs' : List Result) → Prefix rs rs' → Kept (λ x. Prefix rs (told x)) (through (λ y. settle y ks rs') t)
turn_grows rs (gives b y) ks rs' h = further h (settle_grows y ks rs')
turn_grows rs (takes k) ks rs' h = λ b. further h (settle_grows (k b) ks rs')
turn_grows rs rests ks rs' h = tt

drive_grows : (rs : List Result) → Keeps drive (λ x. Prefix rs (told x))
drive_grows rs (busy x m ks rs') h = turn_grows rs (turn (on x m)) ks rs' h
drive_grows rs (over rs') h = tt

pub grows : (x : On State) (ks : List Call) (rs : List Result) {y : Driver} {is os : List ℕ} → Moves drive (settle x ks rs) is os y → Prefix rs (told y)
grows x ks rs p = kept {P = λ z. Prefix rs (told z)} (drive_grows rs) p (settle_grows x ks rs)
