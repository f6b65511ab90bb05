-- What an open call and the handshake can change, at any moment and however they are cut.
--   Held             the call and its device are as they were, or the call was closed: with the device moved on success, as it was on failure
--   held             so it is after any moves of an open call: position and size change only as 01 says
--   rest_unchanged   of the buffer only the first n bytes of a read change
--   filled_by        and those only by the bytes taken, in their order
--   name_unchanged   the name does not change
use Prim.Native.Nat.{ℕ, zero, suc, ◌-◌, ◌≤◌}
use mathlib.Core.Path.{◌≡◌, refl, sym, ap, ◌∙◌}
use mathlib.Core.Bool.{Bool, true, false}
use mathlib.Core.List.{List, [], ◌∷◌, ◌++◌}
use native.Mathlib.Omega.{arith}
use lib.Dec.{eqb, ltb}
use lib.ListN.{length, drop, set}
use lib.Seq.{drop-set-lt, sets}
use Rattle.machine.specs.Choice.{pick, both}
use Rattle.machine.specs.Machine.{Turn, gives, takes, rests, On, on, Moves, still, by_give, by_take, Kept, Keeps}
use Rattle.machine.specs.Parts.{less}
use Rattle.machine.proofs.Moves.{kept}
use Rattle.wire.specs.Fields.{field, same_bytes}
use Rattle.wire.specs.Constants.{NBDMAGIC, IHAVEOPT, OLDSTYLE, NBD_REPLY_MAGIC}
use Rattle.client.specs.Calls.{payload, wanted, value_of, moved}
use Rattle.client.specs.Session.{Handshake, Magic, Style, Newstyle, Hello, Naming, SizeAndFlags, Filler, Progress, Asking, Paying, Hearing, Filling, State, Shaking, Calling, Closed, Over}
use Rattle.client.specs.Session.{judge_magic, judge_style, naming, greeting, newstyle, size_and_flags_length, judge_size_and_flags, filler, filling, paying, after_request, replied, heard, turn}
use Rattle.client.specs.Inner.{Good}
use Rattle.client.specs.declared.state.Device.{Device}
use Rattle.client.specs.declared.state.Call.{Call}
use Rattle.client.specs.declared.state.Outcome.{Outcome}
use Rattle.client.specs.declared.state.Outcome.TheVariants.{Succeeded, Failed}
use Rattle.client.proofs.Kept.{fine}

-- ---- the device
pub data Held (d : Device) (c : Call) : State → Type 0 where
  going_on : {p : Progress} → Held d c (Calling d c p)
  succeeded : Held d c (Closed (Succeeded (value_of c)) (moved d c))
  failed : {error : ℕ} → Held d c (Closed (Failed error) d)
  ended : {n : ℕ} → Held d c (Over n)

module _ (d : Device) (c : Call) where
  abbrev pub HeldOn : On State → Type 0
  HeldOn (on x m) = Held d c x

  filling_held : (left : ℕ) → Held d c (filling d c left)
  filling_held zero = succeeded
  filling_held (suc left) = going_on

  paying_held : (left : ℕ) → Held d c (paying d c left)
  paying_held zero = going_on
  paying_held (suc left) = going_on

  asking_held : (left : ℕ) → Held d c (after_request d c left)
  asking_held zero = paying_held (payload c)
  asking_held (suc left) = going_on

  replied_held : (h : List ℕ) → Held d c (replied d c h)
  unfolding replied
  replied_held h = go (eqb (field h 0 4) NBD_REPLY_MAGIC) (eqb (field h 8 8) 0) (eqb (field h 4 4) 0)
    where
      go : (x y z : Bool) → Held d c (pick x (pick y (pick z (filling d c (wanted c)) (Closed (Failed (field h 4 4)) d)) (Over 46)) (Over 45))
      go true true true = filling_held (wanted c)
      go true true false = failed
      go true false z = ended
      go false y z = ended

  heard_held : (h : List ℕ) → Held d c (heard d c h)
  unfolding heard
  heard_held h = go (ltb (length h) 16)
    where
      go : (a : Bool) → Held d c (pick a (Calling d c (Hearing h)) (replied d c h))
      go true = going_on
      go false = replied_held h

  held_turn : (p : Progress) (m : List ℕ) → Kept HeldOn (turn (on (Calling d c p) m))
  held_turn (Asking left) m = asking_held (less left)
  held_turn (Paying left) m = paying_held (less left)
  held_turn (Hearing got) m = λ b. heard_held (got ++ b ∷ [])
  held_turn (Filling left) m = λ b. filling_held (less left)

  holds : Keeps turn HeldOn
  holds (on x m) (going_on {p = p}) = held_turn p m
  holds (on x m) succeeded = tt
  holds (on x m) failed = tt
  holds (on x m) ended = tt

  pub held : {p : Progress} {m m' is os : List ℕ} {y : State} → Moves turn (on (Calling d c p) m) is os (on y m') → Held d c y
  held q = kept holds q going_on

-- ---- the buffer from the place n on
module _ (d : Device) (c : Call) (m₀ : List ℕ) where
  abbrev Same : On State → Type 0
  Same (on x m) = Held d c x × Good (length m) x × (drop (wanted c) m ≡ drop (wanted c) m₀)

  same_turn : (p : Progress) (m : List ℕ) → Good (length m) (Calling d c p) → drop (wanted c) m ≡ drop (wanted c) m₀ → Kept Same (turn (on (Calling d c p) m))
  same_turn (Asking left) m s e = (held_turn d c (Asking left) m, fine (on (Calling d c (Asking left)) m) s, e)
  same_turn (Paying left) m s e = (held_turn d c (Paying left) m, fine (on (Calling d c (Paying left)) m) s, e)
  same_turn (Hearing got) m s e = λ b. (held_turn d c (Hearing got) m b, fine (on (Calling d c (Hearing got)) m) s b, e)
  same_turn (Filling left) m s e = λ b.
      (held_turn d c (Filling left) m b, fine (on (Calling d c (Filling left)) m) s b, drop-set-lt (wanted c) m (wanted c - left) b (omega (arith, s.2)) ∙ e)

  sames : Keeps turn Same
  sames (on x m) h = go x m h.0 h.1 h.2
    where
      go : (x : State) (m : List ℕ) → Held d c x → Good (length m) x → drop (wanted c) m ≡ drop (wanted c) m₀ → Kept Same (turn (on x m))
      go x m (going_on {p = p}) s e = same_turn p m s e
      go x m succeeded s e = tt
      go x m failed s e = tt
      go x m ended s e = tt

pub rest_unchanged : (d : Device) (c : Call) {p : Progress} {m m' is os : List ℕ} {y : State} → Good (length m) (Calling d c p)
    → Moves turn (on (Calling d c p) m) is os (on y m') → drop (wanted c) m' ≡ drop (wanted c) m
rest_unchanged d c {m = m} s q = (kept (sames d c m) q (going_on, s, refl)).2

-- ---- the first n bytes
-- where a turn that takes a byte leads
abbrev pub taken_to : Turn (On State) → ℕ → On State → On State
taken_to (gives b x) c z = z
taken_to (takes k) c z = k c
taken_to rests c z = z

pub filled_by : (d : Device) (c : Call) (left : ℕ) {m m' is os : List ℕ} {y : State} → left ≤ wanted c
    → Moves turn (on (filling d c left) m) is os (on y m') → m' ≡ sets m (wanted c - left) is
filled_by d c zero h still = refl
filled_by d c (suc left) h still = refl
filled_by d c zero h (by_give e q) = absurd (let z : ◌≡◌ {A = ℕ} 0 1 = cc in omega arith)
filled_by d c (suc left) h (by_give e q) = absurd (let z : ◌≡◌ {A = ℕ} 0 1 = cc in omega arith)
filled_by d c zero h (by_take e q) = absurd (let z : ◌≡◌ {A = ℕ} 0 1 = cc in omega arith)
filled_by d c (suc left) {m = m} {is = is} h (by_take {z = z} {k = k} {b = b} e q) =
    let s : on (filling d c left) (set m (wanted c - suc left) b) ≡ k b = ap (λ (t : Turn (On State)). taken_to t b z) e in
    let i : suc (wanted c - suc left) ≡ wanted c - left = omega arith in
    rw i (filled_by d c left (omega arith) (rw (sym s) at q))

-- ---- the name
pub data Greets : State → Type 0 where
  shaking : {n : ℕ} {p : Handshake} → Greets (Shaking n p)
  closed : {o : Outcome} {d : Device} → Greets (Closed o d)
  over : {n : ℕ} → Greets (Over n)

naming_greets : (n left : ℕ) → Greets (naming n left)
naming_greets n zero = shaking
naming_greets n (suc left) = shaking

greeting_greets : (n left : ℕ) → Greets (greeting n left)
greeting_greets n zero = naming_greets n n
greeting_greets n (suc left) = shaking

newstyle_greets : (n left : ℕ) → Greets (newstyle n left)
newstyle_greets n zero = shaking
newstyle_greets n (suc left) = shaking

filler_greets : (n size flags : ℕ) (clean : Bool) (left : ℕ) → Greets (filler n size flags clean left)
filler_greets n size flags true zero = closed
filler_greets n size flags false zero = over
filler_greets n size flags clean (suc left) = shaking

either_greets : (b : Bool) {x y : State} → Greets x → Greets y → Greets (pick b x y)
either_greets true p q = p
either_greets false p q = q

magicked_greets : (n : ℕ) (h : List ℕ) → Greets (judge_magic n h)
unfolding judge_magic
magicked_greets n h = either_greets (ltb (length h) 8) shaking (either_greets (same_bytes h NBDMAGIC) shaking over)

styled_greets : (n : ℕ) (h : List ℕ) → Greets (judge_style n h)
unfolding judge_style
styled_greets n h =
    either_greets (ltb (length h) 8) shaking
    (either_greets (same_bytes h IHAVEOPT) shaking (either_greets (same_bytes h OLDSTYLE) (either_greets (eqb n 0) shaking over) over))

termed_greets : (n : ℕ) (old : Bool) (h : List ℕ) → Greets (judge_size_and_flags n old h)
unfolding judge_size_and_flags
termed_greets n old h = either_greets (ltb (length h) (size_and_flags_length old)) shaking shaking

module _ (m₀ : List ℕ) where
  abbrev Unchanged : On State → Type 0
  Unchanged (on x m) = Greets x × (m ≡ m₀)

  greets_turn : (n : ℕ) (p : Handshake) (m : List ℕ) → m ≡ m₀ → Kept Unchanged (turn (on (Shaking n p) m))
  greets_turn n (Magic got) m e = λ b. (magicked_greets n (got ++ b ∷ []), e)
  greets_turn n (Style got) m e = λ b. (styled_greets n (got ++ b ∷ []), e)
  greets_turn n (Newstyle left) m e = λ b. (newstyle_greets n (less left), e)
  greets_turn n (Hello left) m e = (greeting_greets n (less left), e)
  greets_turn n (Naming left) m e = (naming_greets n (less left), e)
  greets_turn n (SizeAndFlags old got) m e = λ b. (termed_greets n old (got ++ b ∷ []), e)
  greets_turn n (Filler size flags clean left) m e = λ b. (filler_greets n size flags (both clean (eqb b 0)) (less left), e)

  unchanged : Keeps turn Unchanged
  unchanged (on x m) h = go x h.0
    where
      go : (x : State) → Greets x → Kept Unchanged (turn (on x m))
      go x (shaking {n = n} {p = p}) = greets_turn n p m h.1
      go x closed = tt
      go x over = tt

pub name_unchanged : {n : ℕ} {p : Handshake} {m m' is os : List ℕ} {y : State} → Moves turn (on (Shaking n p) m) is os (on y m') → m' ≡ m
name_unchanged {m = m} q = (kept (unchanged m) q (shaking, refl)).1
