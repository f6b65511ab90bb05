-- What each turn keeps, and so a run of moves.
--   same_lent    the length of what is lent
--   fine, sound, lasts  that the state is sound: within its ranges, or just closed
use Prim.Native.Nat.{ℕ, zero, suc, ◌≤◌}
use mathlib.Core.Path.{◌≡◌, refl, sym, ◌∙◌}
use mathlib.Core.Bool.{Bool, true, false}
use mathlib.Core.List.{List, [], ◌∷◌, ◌++◌}
use native.Mathlib.Omega.{arith}
use borrow.Author.Tests.{ltb-true}
use lib.Dec.{eqb, ltb}
use lib.ListN.{length, length-set}
use Rattle.machine.specs.Choice.{pick, both}
use Rattle.machine.specs.Machine.{On, on, size, Moves, Keeps}
use Rattle.machine.specs.Parts.{less}
use Rattle.machine.specs.Inner.{Lasts}
use Rattle.machine.proofs.Moves.{kept, same_size}
use Rattle.wire.specs.Fields.{field, same_bytes}
use Rattle.wire.specs.Constants.{NBDMAGIC, IHAVEOPT, OLDSTYLE, NBD_REPLY_MAGIC}
use Rattle.client.specs.Calls.{payload, wanted}
use Rattle.client.specs.Session.{Magic, Style, Newstyle, Hello, Naming, SizeAndFlags, Filler, Asking, Paying, Hearing, Filling, State, Blank, Shaking, Ready, Calling, Closed, Over}
use Rattle.client.specs.Session.{judge_magic, oldstyle, judge_style, naming, greeting, newstyle, size_and_flags_length, flags_of, judge_size_and_flags, filler, filling, paying, after_request, replied, heard, turn}
use Rattle.client.specs.Ranges.{lent_to}
use Rattle.client.specs.Inner.{GoodCall, Good, Fine}
use Rattle.client.specs.declared.state.Device.{Device}
use Rattle.client.specs.declared.state.Call.{Call}
use Rattle.client.specs.declared.state.Outcome.TheVariants.{Failed}

-- ---- the length of what is lent
sized : (n : ℕ) → Keeps turn (λ x. size x ≡ n)
sized n (on Blank m) h = tt
sized n (on (Shaking k (Magic got)) m) h = λ b. h
sized n (on (Shaking k (Style got)) m) h = λ b. h
sized n (on (Shaking k (Newstyle left)) m) h = λ b. h
sized n (on (Shaking k (Hello left)) m) h = h
sized n (on (Shaking k (Naming left)) m) h = h
sized n (on (Shaking k (SizeAndFlags old got)) m) h = λ b. h
sized n (on (Shaking k (Filler size' flags clean left)) m) h = λ b. h
sized n (on (Ready d) m) h = tt
sized n (on (Calling d c (Asking left)) m) h = h
sized n (on (Calling d c (Paying left)) m) h = h
sized n (on (Calling d c (Hearing got)) m) h = λ b. h
sized n (on (Calling d c (Filling left)) m) h = λ b. length-set m _ b ∙ h
sized n (on (Closed o d) m) h = tt
sized n (on (Over k) m) h = tt

pub same_lent : {x y : On State} {is os : List ℕ} → Moves turn x is os y → size y ≡ size x
same_lent p = same_size sized p

-- ---- the states of the handshake
module _ {n k : ℕ} (e : n ≡ k) (most : n ≤ 4096) where
  magicked_sound : (h : List ℕ) → Good k (judge_magic n h)
  unfolding judge_magic
  magicked_sound h = go (ltb (length h) 8) refl (same_bytes h NBDMAGIC)
    where
      go : (a : Bool) → ltb (length h) 8 ≡ a → (b : Bool) → Good k (pick a (Shaking n (Magic h)) (pick b (Shaking n (Style [])) (Over 40)))
      go true p b = (e, most, ltb-true _ _ p)
      go false p true = (e, most, omega arith)
      go false p false = refl

  oldstyle_sound : (b : Bool) → Good k (pick b (Shaking n (SizeAndFlags true [])) (Over 42))
  oldstyle_sound true = (e, most, omega arith)
  oldstyle_sound false = refl

  styled_sound : (h : List ℕ) → Good k (judge_style n h)
  unfolding judge_style
  styled_sound h = go (ltb (length h) 8) refl (same_bytes h IHAVEOPT) (same_bytes h OLDSTYLE)
    where
      go : (a : Bool) → ltb (length h) 8 ≡ a → (b c : Bool)
          → Good k (pick a (Shaking n (Style h)) (pick b (Shaking n (Newstyle 2)) (pick c (oldstyle n) (Over 41))))
      go true p b c = (e, most, ltb-true _ _ p)
      go false p true c = (e, most, omega arith)
      go false p false true = oldstyle_sound (eqb n 0)
      go false p false false = refl

  naming_sound : (left : ℕ) → left ≤ n → Good k (naming n left)
  naming_sound zero h = (e, most, omega arith)
  naming_sound (suc left) h = (e, most, omega arith)

  greeting_sound : (left : ℕ) → left ≤ 20 → Good k (greeting n left)
  greeting_sound zero h = naming_sound n (omega arith)
  greeting_sound (suc left) h = (e, most, omega arith)

  newstyle_sound : (left : ℕ) → left ≤ 2 → Good k (newstyle n left)
  newstyle_sound zero h = (e, most, omega arith)
  newstyle_sound (suc left) h = (e, most, omega arith)

  termed_sound : (old : Bool) (h : List ℕ) → Good k (judge_size_and_flags n old h)
  unfolding judge_size_and_flags
  termed_sound old h = go (ltb (length h) (size_and_flags_length old)) refl
    where
      go : (a : Bool) → ltb (length h) (size_and_flags_length old) ≡ a → Good k (pick a (Shaking n (SizeAndFlags old h)) (Shaking n (Filler (field h 0 8) (flags_of old h) true 124)))
      go true p = (e, most, ltb-true _ _ p)
      go false p = (e, most, omega arith)

  filler_sound : (size flags : ℕ) (clean : Bool) (left : ℕ) → left ≤ 124 → Good k (filler n size flags clean left)
  filler_sound size flags true zero h = tt
  filler_sound size flags false zero h = refl
  filler_sound size flags clean (suc left) h = (e, most, omega arith)

-- ---- the states of a call
module _ (d : Device) (c : Call) {k : ℕ} (e : lent_to c ≡ k) (ok : GoodCall d c) where
  filling_sound : (left : ℕ) → left ≤ wanted c → Good k (filling d c left)
  filling_sound zero h = tt
  filling_sound (suc left) h = (e, ok, (omega arith, h))

  paying_sound : (left : ℕ) → left ≤ payload c → Good k (paying d c left)
  paying_sound zero h = (e, ok, omega arith)
  paying_sound (suc left) h = (e, ok, (omega arith, h))

  asking_sound : (left : ℕ) → left ≤ 28 → Good k (after_request d c left)
  asking_sound zero h = paying_sound (payload c) (omega arith)
  asking_sound (suc left) h = (e, ok, (omega arith, h))

  replied_sound : (h : List ℕ) → Good k (replied d c h)
  unfolding replied
  replied_sound h = go (eqb (field h 0 4) NBD_REPLY_MAGIC) (eqb (field h 8 8) 0) (eqb (field h 4 4) 0)
    where
      go : (x y z : Bool) → Good k (pick x (pick y (pick z (filling d c (wanted c)) (Closed (Failed (field h 4 4)) d)) (Over 46)) (Over 45))
      go true true true = filling_sound (wanted c) (omega arith)
      go true true false = tt
      go true false z = refl
      go false y z = refl

  heard_sound : (h : List ℕ) → Good k (heard d c h)
  unfolding heard
  heard_sound h = go (ltb (length h) 16) refl
    where
      go : (a : Bool) → ltb (length h) 16 ≡ a → Good k (pick a (Calling d c (Hearing h)) (replied d c h))
      go true p = (e, ok, ltb-true _ _ p)
      go false p = replied_sound h

-- ---- each turn
below : (l : ℕ) {b : ℕ} → l ≤ b → less l ≤ b
below zero h = omega arith
below (suc l) h = omega arith

pub fine : Keeps turn Fine
fine (on Blank m) h = tt
fine (on (Shaking n (Magic got)) m) h = λ b. magicked_sound h.0 h.1 (got ++ b ∷ [])
fine (on (Shaking n (Style got)) m) h = λ b. styled_sound h.0 h.1 (got ++ b ∷ [])
fine (on (Shaking n (Newstyle left)) m) h = λ b. newstyle_sound h.0 h.1 (less left) (below left h.2.1)
fine (on (Shaking n (Hello left)) m) h = greeting_sound h.0 h.1 (less left) (below left h.2.1)
fine (on (Shaking n (Naming left)) m) h = naming_sound h.0 h.1 (less left) (below left h.2.1)
fine (on (Shaking n (SizeAndFlags old got)) m) h = λ b. termed_sound h.0 h.1 old (got ++ b ∷ [])
fine (on (Shaking n (Filler size' flags clean left)) m) h = λ b. filler_sound h.0 h.1 size' flags (both clean (eqb b 0)) (less left) (below left h.2.1)
fine (on (Ready d) m) h = tt
fine (on (Calling d c (Asking left)) m) h = asking_sound d c h.0 h.1 (less left) (below left h.2.1)
fine (on (Calling d c (Paying left)) m) h = paying_sound d c h.0 h.1 (less left) (below left h.2.1)
fine (on (Calling d c (Hearing got)) m) h = λ b. heard_sound d c h.0 h.1 (got ++ b ∷ [])
fine (on (Calling d c (Filling left)) m) h = λ b. filling_sound d c (h.0 ∙ sym (length-set m _ b)) h.1 (less left) (below left h.2.1)
fine (on (Closed o d) m) h = tt
fine (on (Over n) m) h = tt

pub sound : {x y : On State} {is os : List ℕ} → Moves turn x is os y → Fine x → Fine y
sound p h = kept fine p h

pub lasts : {m : List ℕ} {x : State} → Good (length m) x → Lasts Good turn x m
lasts g y m' is os p = (sound p g, same_lent p)
