-- Headers: bytes gathered in the state up to the next place where they are judged.
--   gathered_leaf    one piece of a header is moves of the machine
--   flags_.., option_.., request_..    the first k bytes of each, of the 28 in the array
--   each_.., quiet_..   each gathers bytes, and judges none before the next place
--   until_..         the next place is past the bytes that are there
use Prim.Native.Nat.{ℕ, zero, suc, ◌+◌, ◌-◌, ◌≤◌, ◌<◌}
use mathlib.Core.Path.{◌≡◌, refl, sym, ap, ◌∙◌}
use mathlib.Core.Bool.{Bool, true, false}
use mathlib.Core.List.{List, [], ◌∷◌}
use native.Mathlib.Omega.{arith}
use native.Mathlib.Nat.{suc-add, zero-add}
use borrow.Author.Tests.{lt-ltb, ltb-true, ltb-false, eq-eqb, ne_eqb}
use lib.Dec.{ltb}
use lib.ListN.{length, take, drop}
use lib.Seq.{length-take-le, take_all, take-take, take-nil}
use Rattle.machine.specs.Choice.{pick}
use Rattle.machine.specs.Machine.{on}
use Rattle.machine.specs.Pieces.{Absorbs}
use Rattle.machine.proofs.Families.{Gathers, Quiet}
use Rattle.machine.proofs.Leaves.{gather_leaf}
use Rattle.wire.specs.Fields.{field, number, same_bytes}
use Rattle.wire.specs.Constants.{IHAVEOPT, NBD_REQUEST_MAGIC}
use Rattle.wire.specs.declared.table.Export.{Export}
use Rattle.server.specs.Request.{request_of, owed}
use Rattle.server.specs.Session.{State, ClientFlags, OptionHead, Shaking, Header, Serving, Over}
use Rattle.server.specs.Session.{judge_flags, payload, judge_option, begun, requested, turn}
use Rattle.server.specs.Inner.{option_until, request_until}
use Rattle.machine.specs.Inner.{Gathered}

drop_take : (i j : ℕ) (h : List ℕ) → drop i (take (i + j) h) ≡ take j (drop i h)
drop_take zero j h = rw (zero-add j)
drop_take (suc i) j [] = rw (suc-add i j) (sym (take-nil j))
drop_take (suc i) j (x ∷ h) = rw (suc-add i j) (drop_take i j h)

-- a field that lies in the first k bytes
field_take : (h : List ℕ) (k i n : ℕ) → i + n ≤ k → field (take k h) i n ≡ field h i n
field_take h k i n e =
    let l : i + (k - i) ≡ k = omega arith in
    ap number (ap (λ (j : ℕ). take n (drop i (take j h))) (sym l) ∙ ap (take n) (drop_take i (k - i) h) ∙ take-take n (k - i) (drop i h) (omega arith))

module _ (t : List ℕ) (wait judge : List ℕ → State) where
  pub gathered_leaf : {head head' input m : List ℕ} {have to taken : ℕ} {x : State}
      → Gathers (turn t) wait judge m → Quiet (turn t) wait judge have to → length head ≡ 28 → have < to → to ≤ 28 → 0 < length input
      → Gathered head have to input head' taken → x ≡ judge (take (have + taken) head')
      → Absorbs (turn t) (on (wait (take have head)) m) input taken (on x m)
  gathered_leaf {head} {head'} {input} {m} {have} {to} {taken} {x} each quiet long below fits some g e =
      let k : length (take have head) ≡ have = length-take-le have head (omega arith) in
      gather_leaf wait judge to each (take have head) (rw k quiet) (rw k below) (rw k g.least) (λ z. omega arith) (e ∙ ap judge g.bytes)

-- ---- a request
module _ (e : Export) (h : List ℕ) (k : ℕ) (long : length h ≡ 28) where
  pub request_magic : k ≡ 4 → field h 0 4 ≡ NBD_REQUEST_MAGIC → Serving e (Header (take 4 h)) ≡ requested e (take k h)
  unfolding requested
  request_magic p q = rw (p, length-take-le 4 h (omega arith), eq-eqb (number (take 4 h)) NBD_REQUEST_MAGIC q)

  pub request_other : k ≡ 4 → (field h 0 4 ≡ NBD_REQUEST_MAGIC → ⊥) → Over 10 ≡ requested e (take k h)
  unfolding requested
  request_other p q = rw (p, length-take-le 4 h (omega arith), ne_eqb (number (take 4 h)) NBD_REQUEST_MAGIC q)

  pub request_part : (k ≡ 4 → ⊥) → k < 28 → Serving e (Header (take k h)) ≡ requested e (take k h)
  unfolding requested
  request_part p q = rw (length-take-le k h (omega arith), ne_eqb k 4 p, lt-ltb k 28 q)

  pub request_whole : 28 ≤ k → begun e (request_of h) (owed e (request_of h)) ≡ requested e (take k h)
  unfolding requested
  request_whole q = rw (take_all k h (omega arith), long)

pub each_request : (t : List ℕ) (e : Export) (m : List ℕ) → Gathers (turn t) (λ got. Serving e (Header got)) (requested e) m
each_request t e m got = refl

pub until_request : (k : ℕ) → k < 28 → (k < request_until k) × (request_until k ≤ 28)
until_request k h = go (ltb k 4) refl
  where
    go : (b : Bool) → ltb k 4 ≡ b → (k < pick b 4 28) × (pick b 4 28 ≤ 28)
    go true e = (ltb-true k 4 e, omega arith)
    go false e = (h, omega arith)

pub quiet_request : (t : List ℕ) (e : Export) (k : ℕ) → Quiet (turn t) (λ got. Serving e (Header got)) (requested e) k (request_until k)
unfolding requested
quiet_request t e k = go (ltb k 4) refl
  where
    go : (b : Bool) → ltb k 4 ≡ b → Quiet (turn t) (λ got. Serving e (Header got)) (requested e) k (pick b 4 28)
    go true p h lo hi = rw (ne_eqb (length h) 4 (omega arith), lt-ltb (length h) 28 (omega arith))
    go false p h lo hi = rw (ne_eqb (length h) 4 (omega (arith, ltb-false k 4 p)), lt-ltb (length h) 28 hi)

pub request_leaf : (t : List ℕ) (e : Export) {head head' input m : List ℕ} {have taken : ℕ} {x : State}
    → length head ≡ 28 → have < 28 → 0 < length input → Gathered head have (request_until have) input head' taken
    → x ≡ requested e (take (have + taken) head') → Absorbs (turn t) (on (Serving e (Header (take have head))) m) input taken (on x m)
request_leaf t e {m = m} {have = have} long below some g q =
    let u = until_request have below in
    gathered_leaf t (λ got. Serving e (Header got)) (requested e) (each_request t e m) (quiet_request t e have) long u.0 u.1 some g q

-- ---- the client's flags
module _ (h : List ℕ) (k : ℕ) (long : length h ≡ 28) where
  pub flags_part : k < 4 → Shaking (ClientFlags (take k h)) ≡ judge_flags (take k h)
  unfolding judge_flags
  flags_part q = rw (length-take-le k h (omega arith), lt-ltb k 4 q)

  flags_four : k ≤ 4 → 4 ≤ k → (length (take k h) ≡ 4) × (number (take k h) ≡ field h 0 4)
  flags_four p q = let e : k ≡ 4 = omega arith in rw e (length-take-le 4 h (omega arith), refl)

  pub flags_zeroes : k ≤ 4 → 4 ≤ k → field h 0 4 ≡ 1 → Shaking (OptionHead true []) ≡ judge_flags (take k h)
  unfolding judge_flags
  flags_zeroes p q e = let f = flags_four p q in rw (f.0, f.1, e)

  pub flags_no_zeroes : k ≤ 4 → 4 ≤ k → field h 0 4 ≡ 3 → Shaking (OptionHead false []) ≡ judge_flags (take k h)
  unfolding judge_flags
  flags_no_zeroes p q e = let f = flags_four p q in rw (f.0, f.1, e)

  pub flags_other : k ≤ 4 → 4 ≤ k → (field h 0 4 ≡ 1 → ⊥) → (field h 0 4 ≡ 3 → ⊥) → Over 1 ≡ judge_flags (take k h)
  unfolding judge_flags
  flags_other p q a b = let f = flags_four p q in rw (f.0, f.1, ne_eqb (field h 0 4) 1 a, ne_eqb (field h 0 4) 3 b)

pub each_flags : (t m : List ℕ) → Gathers (turn t) (λ got. Shaking (ClientFlags got)) judge_flags m
each_flags t m got = refl

pub quiet_flags : (t : List ℕ) (k : ℕ) → Quiet (turn t) (λ got. Shaking (ClientFlags got)) judge_flags k 4
unfolding judge_flags
quiet_flags t k h lo hi = rw (lt-ltb (length h) 4 hi)

pub flags_leaf : (t : List ℕ) {head head' input m : List ℕ} {have taken : ℕ} {x : State}
    → length head ≡ 28 → have < 4 → 0 < length input → Gathered head have 4 input head' taken
    → x ≡ judge_flags (take (have + taken) head') → Absorbs (turn t) (on (Shaking (ClientFlags (take have head))) m) input taken (on x m)
flags_leaf t {m = m} {have = have} long below some g q =
    gathered_leaf t (λ got. Shaking (ClientFlags got)) judge_flags (each_flags t m) (quiet_flags t have) long below (omega arith) some g q

-- ---- an option
module _ (z : Bool) (t h : List ℕ) (k : ℕ) (long : length h ≡ 28) where
  pub option_magic : k ≡ 8 → same_bytes (take 8 (drop 0 h)) IHAVEOPT ≡ true → Shaking (OptionHead z (take 8 h)) ≡ judge_option z t (take k h)
  unfolding judge_option
  option_magic p q = rw (p, length-take-le 8 h (omega arith), q)

  pub option_other : k ≡ 8 → same_bytes (take 8 (drop 0 h)) IHAVEOPT ≡ false → Over 2 ≡ judge_option z t (take k h)
  unfolding judge_option
  option_other p q = rw (p, length-take-le 8 h (omega arith), q)

  pub option_part : (k ≡ 8 → ⊥) → k < 16 → Shaking (OptionHead z (take k h)) ≡ judge_option z t (take k h)
  unfolding judge_option
  option_part p q = rw (length-take-le k h (omega arith), ne_eqb k 8 p, lt-ltb k 16 q)

  pub option_whole : k ≤ 16 → 16 ≤ k → payload z t (field h 8 4) (field h 12 4) ≡ judge_option z t (take k h)
  unfolding judge_option
  option_whole p q =
      let e : k ≡ 16 = omega arith in
      rw (e, length-take-le 16 h (omega arith), field_take h 16 8 4 (omega arith), field_take h 16 12 4 (omega arith))

pub each_option : (z : Bool) (t m : List ℕ) → Gathers (turn t) (λ got. Shaking (OptionHead z got)) (judge_option z t) m
each_option z t m got = refl

pub until_option : (k : ℕ) → k < 16 → (k < option_until k) × (option_until k ≤ 16)
until_option k h = go (ltb k 8) refl
  where
    go : (b : Bool) → ltb k 8 ≡ b → (k < pick b 8 16) × (pick b 8 16 ≤ 16)
    go true e = (ltb-true k 8 e, omega arith)
    go false e = (h, omega arith)

pub quiet_option : (z : Bool) (t : List ℕ) (k : ℕ) → Quiet (turn t) (λ got. Shaking (OptionHead z got)) (judge_option z t) k (option_until k)
unfolding judge_option
quiet_option z t k = go (ltb k 8) refl
  where
    go : (b : Bool) → ltb k 8 ≡ b → Quiet (turn t) (λ got. Shaking (OptionHead z got)) (judge_option z t) k (pick b 8 16)
    go true p h lo hi = rw (ne_eqb (length h) 8 (omega arith), lt-ltb (length h) 16 (omega arith))
    go false p h lo hi = rw (ne_eqb (length h) 8 (omega (arith, ltb-false k 8 p)), lt-ltb (length h) 16 hi)

pub option_leaf : (z : Bool) (t : List ℕ) {head head' input m : List ℕ} {have taken : ℕ} {x : State}
    → length head ≡ 28 → have < 16 → 0 < length input → Gathered head have (option_until have) input head' taken
    → x ≡ judge_option z t (take (have + taken) head') → Absorbs (turn t) (on (Shaking (OptionHead z (take have head))) m) input taken (on x m)
option_leaf z t {m = m} {have = have} long below some g q =
    let u = until_option have below in
    gathered_leaf t (λ got. Shaking (OptionHead z got)) (judge_option z t) (each_option z t m) (quiet_option z t have) long u.0 (omega (arith, u.1)) some g q
