-- Bytes gathered in `head`, and what they are judged to be.
--   magic_part, style_part, terms_part, reply_part    where more are to come, none is judged
--   part_waits     so the state waits with the bytes that are there
--   magic_.., style_.., terms_.., reply_whole         all are there
--   take_part      a part of the first bytes is a part of all
--   taken_below    fewer bytes than there are
use Prim.Native.Nat.{ℕ, zero, suc, ◌+◌, ◌≤◌, ◌<◌}
use mathlib.Core.Path.{◌≡◌, refl, sym}
use mathlib.Core.Bool.{Bool, true, false}
use mathlib.Core.List.{List, [], ◌∷◌}
use native.Mathlib.Omega.{arith}
use borrow.Author.Tests.{lt-ltb}
use lib.ListN.{length, take, drop, length-take}
use lib.Seq.{length-take-le, take-take, take_all}
use Rattle.wire.specs.Fields.{field, same_bytes}
use Rattle.wire.specs.Constants.{NBDMAGIC, IHAVEOPT, OLDSTYLE}
use Rattle.client.specs.Session.{State, Magic, Style, Newstyle, SizeAndFlags, Filler, Hearing, Shaking, Calling, Over, judge_magic, oldstyle, judge_style, size_and_flags_length, flags_of, judge_size_and_flags, replied, heard}
use Rattle.client.specs.declared.state.Device.{Device}
use Rattle.client.specs.declared.state.Call.{Call}

pub take_part : (i n k : ℕ) (l : List ℕ) → i + n ≤ k → take n (drop i (take k l)) ≡ take n (drop i l)
take_part zero n k l h = take-take n k l (omega arith)
take_part (suc i) n zero l h = absurd (omega arith)
take_part (suc i) n (suc k) [] h = refl
take_part (suc i) n (suc k) (x ∷ l) h = take_part i n k l (omega arith)

pub taken_below : (h : List ℕ) (k to : ℕ) → to ≤ length h → length (take k h) < to → k < to
taken_below h k to fits below = omega (arith, length-take k h)

-- ---- more are to come
pub magic_part : (n : ℕ) (h : List ℕ) → length h < 8 → judge_magic n h ≡ Shaking n (Magic h)
unfolding judge_magic
magic_part n h p = rw (lt-ltb (length h) 8 p)

pub style_part : (n : ℕ) (h : List ℕ) → length h < 8 → judge_style n h ≡ Shaking n (Style h)
unfolding judge_style
style_part n h p = rw (lt-ltb (length h) 8 p)

pub terms_part : (n : ℕ) (old : Bool) (h : List ℕ) → length h < size_and_flags_length old → judge_size_and_flags n old h ≡ Shaking n (SizeAndFlags old h)
unfolding judge_size_and_flags
terms_part n old h p = rw (lt-ltb (length h) (size_and_flags_length old) p)

pub reply_part : (d : Device) (c : Call) (h : List ℕ) → length h < 16 → heard d c h ≡ Calling d c (Hearing h)
unfolding heard
reply_part d c h p = rw (lt-ltb (length h) 16 p)

pub part_waits : (wait judge : List ℕ → State) (to : ℕ) → ((h : List ℕ) → length h < to → judge h ≡ wait h)
    → (h : List ℕ) (k : ℕ) → to ≤ length h → k < to → wait (take k h) ≡ judge (take k h)
part_waits wait judge to quiet h k fits below = sym (quiet (take k h) (rw (length-take-le k h (omega arith)) below))

-- ---- all are there, of the 16 bytes of the array
module _ (n : ℕ) (h : List ℕ) (k : ℕ) (long : length h ≡ 16) (some : 8 ≤ k) (most : k ≤ 8) where
  eight : k ≡ 8
  eight = omega arith

  pub magic_right : same_bytes (take 8 h) NBDMAGIC ≡ true → Shaking n (Style []) ≡ judge_magic n (take k h)
  unfolding judge_magic
  magic_right s = rw (eight, length-take-le 8 h (omega arith), s)

  pub magic_wrong : same_bytes (take 8 h) NBDMAGIC ≡ false → Over 40 ≡ judge_magic n (take k h)
  unfolding judge_magic
  magic_wrong s = rw (eight, length-take-le 8 h (omega arith), s)

  pub style_new : same_bytes (take 8 h) IHAVEOPT ≡ true → Shaking n (Newstyle 2) ≡ judge_style n (take k h)
  unfolding judge_style
  style_new s = rw (eight, length-take-le 8 h (omega arith), s)

  pub style_old : same_bytes (take 8 h) IHAVEOPT ≡ false → same_bytes (take 8 h) OLDSTYLE ≡ true → oldstyle n ≡ judge_style n (take k h)
  unfolding judge_style
  style_old s t = rw (eight, length-take-le 8 h (omega arith), s, t)

  pub style_other : same_bytes (take 8 h) IHAVEOPT ≡ false → same_bytes (take 8 h) OLDSTYLE ≡ false → Over 41 ≡ judge_style n (take k h)
  unfolding judge_style
  style_other s t = rw (eight, length-take-le 8 h (omega arith), s, t)

pub terms_most : (old : Bool) → size_and_flags_length old ≤ 16
terms_most true = omega arith
terms_most false = omega arith

pub terms_whole : (n : ℕ) (old : Bool) (h : List ℕ) (k : ℕ) → length h ≡ 16 → size_and_flags_length old ≤ k → k ≤ size_and_flags_length old
    → Shaking n (Filler (field h 0 8) (flags_of old h) true 124) ≡ judge_size_and_flags n old (take k h)
unfolding judge_size_and_flags
terms_whole n true h k long some most =
    let e : k ≡ 12 = omega arith in
    rw (e, length-take-le 12 h (omega arith), take_part 0 8 12 h (omega arith), take_part 8 4 12 h (omega arith))
terms_whole n false h k long some most =
    let e : k ≡ 10 = omega arith in
    rw (e, length-take-le 10 h (omega arith), take_part 0 8 10 h (omega arith), take_part 8 2 10 h (omega arith))

pub reply_whole : (d : Device) (c : Call) (h : List ℕ) (k : ℕ) → length h ≡ 16 → 16 ≤ k → replied d c h ≡ heard d c (take k h)
unfolding heard
reply_whole d c h k long some = rw (take_all k h (omega arith), long)
