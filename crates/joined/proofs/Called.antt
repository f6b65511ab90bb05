-- A client whose handshake was called is never blank again.
--   NotBlank      the state is not the blank one
--   called_or     it is, or it is not
--   still_blank   a step that leads to a blank client began at one, and left what is lent to it as it was
--   begun         the handshake's call on a blank client
use Prim.Native.Nat.{ℕ, zero, suc, ◌≤◌}
use mathlib.Core.Path.{◌≡◌, refl}
use mathlib.Core.Logic.{◌⊎◌, inl, inr}
use mathlib.Core.Bool.{Bool, true, false}
use mathlib.Core.List.{List, [], ◌∷◌, ◌++◌}
use borrow.Author.Tests.{le-leb}
use lib.Dec.{eqb, ltb}
use lib.ListN.{length}
use Rattle.machine.specs.Choice.{pick}
use Rattle.machine.specs.Machine.{On, on, Keeps}
use Rattle.machine.specs.Parts.{less}
use Rattle.machine.proofs.Moves.{kept}
use Rattle.wire.specs.Fields.{field, same_bytes}
use Rattle.wire.specs.Constants.{NBDMAGIC, IHAVEOPT, OLDSTYLE, NBD_REPLY_MAGIC}
use Rattle.client.specs.Calls.{payload, wanted}
use Rattle.client.specs.Session.{Magic, Style, Newstyle, Hello, Naming, SizeAndFlags, Filler, Asking, Paying, Hearing, Filling, State, Blank, Shaking, Ready, Calling, Closed, Over}
use Rattle.client.specs.Session.{judge_magic, judge_style, naming, greeting, newstyle, size_and_flags_length, judge_size_and_flags, filler, filling, paying, after_request, replied, heard, turn}
use Rattle.client.specs.View.{view}
use Rattle.client.specs.Ranges.{in_range, refusal}
use Rattle.client.specs.Contract.{shaken, answer, after, Drives}
use Rattle.client.specs.declared.state.Client.{Client}
use Rattle.client.specs.declared.state.Device.{Device}
use Rattle.client.specs.declared.state.Call.{Call}
use Rattle.client.specs.declared.state.Outcome.TheVariants.{Open}
use Rattle.client.specs.Answers.{Stepped}
use Rattle.client.proofs.Tidy.{viewed}
use Rattle.client.proofs.Result.{idle}

abbrev pub NotBlank : State → Type 0
NotBlank Blank = ⊥
NotBlank (Shaking n p) = Unit {0}
NotBlank (Ready d) = Unit {0}
NotBlank (Calling d c p) = Unit {0}
NotBlank (Closed o d) = Unit {0}
NotBlank (Over n) = Unit {0}

pub called_or : (x : State) → (x ≡ Blank) ⊎ NotBlank x
called_or Blank = inl refl
called_or (Shaking n p) = inr tt
called_or (Ready d) = inr tt
called_or (Calling d c p) = inr tt
called_or (Closed o d) = inr tt
called_or (Over n) = inr tt

abbrev NotBlankOn : On State → Type 0
NotBlankOn (on x m) = NotBlank x

-- ---- the states that a turn leads to
by_test : (b : Bool) (x y : State) → NotBlank x → NotBlank y → NotBlank (pick b x y)
by_test true x y p q = p
by_test false x y p q = q

named : (n l : ℕ) → NotBlank (naming n l)
named n zero = tt
named n (suc l) = tt

greeted : (n l : ℕ) → NotBlank (greeting n l)
greeted n zero = named n n
greeted n (suc l) = tt

newly : (n l : ℕ) → NotBlank (newstyle n l)
newly n zero = tt
newly n (suc l) = tt

filled : (n size flags : ℕ) (clean : Bool) (l : ℕ) → NotBlank (filler n size flags clean l)
filled n size flags clean zero = by_test clean _ _ tt tt
filled n size flags clean (suc l) = tt

module _ (d : Device) (c : Call) where
  read_on : (l : ℕ) → NotBlank (filling d c l)
  read_on zero = tt
  read_on (suc l) = tt

  paid : (l : ℕ) → NotBlank (paying d c l)
  paid zero = tt
  paid (suc l) = tt

  asked : (l : ℕ) → NotBlank (after_request d c l)
  asked zero = paid (payload c)
  asked (suc l) = tt

  hearing : (h : List ℕ) → NotBlank (heard d c h)
  unfolding heard replied
  hearing h =
      by_test (ltb (length h) 16) _ _ tt
      (by_test (eqb (field h 0 4) NBD_REPLY_MAGIC) _ _ (by_test (eqb (field h 8 8) 0) _ _ (by_test (eqb (field h 4 4) 0) _ _ (read_on (wanted c)) tt) tt) tt)

magic : (n : ℕ) (h : List ℕ) → NotBlank (judge_magic n h)
unfolding judge_magic
magic n h = by_test (ltb (length h) 8) _ _ tt (by_test (same_bytes h NBDMAGIC) _ _ tt tt)

style : (n : ℕ) (h : List ℕ) → NotBlank (judge_style n h)
unfolding judge_style
style n h = by_test (ltb (length h) 8) _ _ tt (by_test (same_bytes h IHAVEOPT) _ _ tt (by_test (same_bytes h OLDSTYLE) _ _ (by_test (eqb n 0) _ _ tt tt) tt))

terms : (n : ℕ) (old : Bool) (h : List ℕ) → NotBlank (judge_size_and_flags n old h)
unfolding judge_size_and_flags
terms n old h = by_test (ltb (length h) (size_and_flags_length old)) _ _ tt tt

keeps_called : Keeps turn NotBlankOn
keeps_called (on Blank m) h = tt
keeps_called (on (Shaking n (Magic got)) m) h = λ b. magic n (got ++ b ∷ [])
keeps_called (on (Shaking n (Style got)) m) h = λ b. style n (got ++ b ∷ [])
keeps_called (on (Shaking n (Newstyle left)) m) h = λ b. newly n (less left)
keeps_called (on (Shaking n (Hello left)) m) h = greeted n (less left)
keeps_called (on (Shaking n (Naming left)) m) h = named n (less left)
keeps_called (on (Shaking n (SizeAndFlags old got)) m) h = λ b. terms n old (got ++ b ∷ [])
keeps_called (on (Shaking n (Filler size flags clean left)) m) h = λ b. filled n size flags _ (less left)
keeps_called (on (Ready d) m) h = tt
keeps_called (on (Calling d c (Asking left)) m) h = asked d c (less left)
keeps_called (on (Calling d c (Paying left)) m) h = paid d c (less left)
keeps_called (on (Calling d c (Hearing got)) m) h = λ b. hearing d c (got ++ b ∷ [])
keeps_called (on (Calling d c (Filling left)) m) h = λ b. read_on d c (less left)
keeps_called (on (Closed o d) m) h = tt
keeps_called (on (Over n) m) h = tt

-- ---- a step
told_called : (x : State) → NotBlank x → NotBlank (after x)
told_called Blank h = h
told_called (Shaking n p) h = tt
told_called (Ready d) h = tt
told_called (Calling d c p) h = tt
told_called (Closed o d) h = tt
told_called (Over n) h = tt

module _ {c : Client} {m input room : List ℕ} {r : Stepped} {m' room' : List ℕ} (p : Drives c m input room r m' room') (fine : refusal (length m) c ≡ 0) where
  step_called : NotBlank (view c) → NotBlank (view r.state)
  step_called h =
      let a = p.accepts fine in
      rw (a.state, viewed (after a.place)) (told_called a.place (kept {P = NotBlankOn} keeps_called a.steps.goes.moves h))

  pub still_blank : view r.state ≡ Blank → (view c ≡ Blank) × (m' ≡ m)
  still_blank e = go (called_or (view c))
    where
      go : (view c ≡ Blank) ⊎ NotBlank (view c) → (view c ≡ Blank) × (m' ≡ m)
      go (inl q) = (q, (idle p fine (rw q)).1)
      go (inr h) = absurd (rw e at (step_called h))

-- ---- the call
pub begun : (c : Client) (n : ℕ) → view c ≡ Blank → in_range c ≡ true → n ≤ 4096 → shaken n c ≡ answer (Shaking n (Magic [])) Open
begun c n blank fine h = rw (fine, blank, le-leb n 4096 h)
