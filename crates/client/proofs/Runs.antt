-- The session's runs of bytes are moves of the machine, by machine's laws.
--   gathered_leaf   bytes gathered until they are judged
--   owed_leaf       bytes of a list that is owed
--   fill_leaf       a read's data into the buffer
--   skip_leaf, filler_leaf    a new-style server's flags, and the filler
--   length_hello, length_asks   the lengths of what is sent
--   paid, filled    what the lent buffer has space for
use Prim.Native.Nat.{ℕ, zero, suc, min, ◌+◌, ◌-◌, ◌≤◌, ◌<◌}
use mathlib.Core.Path.{◌≡◌, refl, sym, ap, ◌∙◌}
use mathlib.Core.Bool.{Bool}
use mathlib.Core.List.{List, [], ◌∷◌, append-nil}
use native.Mathlib.Omega.{arith}
use lib.Dec.{eqb}
use lib.ListN.{length, take, drop, get_or, set, length-take}
use lib.Seq.{length-take-le, paste, sets, sets-eq}
use Rattle.machine.specs.Choice.{both}
use Rattle.machine.specs.Machine.{on, gives, Moves, still, by_take}
use Rattle.machine.specs.Pieces.{Absorbs, Emits}
use Rattle.machine.proofs.Families.{Sends, Gathers}
use Rattle.machine.proofs.Leaves.{absorbs_none, gather_leaf, send_leaf, drop_leaf, fold_leaf}
use Rattle.wire.specs.Fields.{be}
use Rattle.wire.specs.Layouts.{request}
use Rattle.client.specs.Calls.{payload, wanted, request_bytes}
use Rattle.client.specs.Session.{Newstyle, Filler, Filling, State, Shaking, Calling, hello, newstyle, filler, filling, turn}
use Rattle.client.specs.Ranges.{lent_to}
use Rattle.client.specs.Inner.{GoodCall}
use Rattle.machine.specs.Parts.{owing, blank}
use Rattle.machine.specs.Inner.{Gathered, Given}
use Rattle.client.specs.declared.state.Device.{Device}
use Rattle.client.specs.declared.state.Call.{Call}
use Rattle.client.specs.declared.state.Call.TheVariants.{Read, Write, Flush, Trim, Resize}
use Rattle.client.proofs.Left.{newstyle_more, filler_more, filling_more}
use Rattle.machine.proofs.Zeros.{blank_fold}

-- ---- bytes gathered in the state, and judged when there are `to`
module _ (wait judge : List ℕ → State) (to : ℕ) (quiet : (h : List ℕ) → length h < to → judge h ≡ wait h) where
  pub gathered_leaf : {head head' input m : List ℕ} {have taken : ℕ} {x : State} → Gathers turn wait judge m → have < to → to ≤ length head
      → Gathered head have to input head' taken → x ≡ judge (take (have + taken) head') → Absorbs turn (on (wait (take have head)) m) input taken (on x m)
  gathered_leaf {head = head} {input = []} {m = m} {have = have} {taken = taken} {x = x} each below fits g e =
      let k : length (take have head) ≡ have = length-take-le have head (omega arith) in
      let none : taken ≡ 0 = omega (arith, g.least) in
      let same : x ≡ wait (take have head) =
      e ∙ ap judge g.bytes ∙ rw (none, append-nil (take have head)) (quiet (take have head) (rw k below)) in
      rw (none, same) (absorbs_none refl)
  gathered_leaf {head = head} {input = b ∷ input} {have = have} each below fits g e =
      let k : length (take have head) ≡ have = length-take-le have head (omega arith) in
      gather_leaf wait judge to each (take have head) (λ h lo hi. quiet h hi) (rw k below) (rw k g.least) (λ z. omega arith) (e ∙ ap judge g.bytes)

-- ---- a list l, of which `left` bytes are owed in the state f left
module _ (f : ℕ → State) (l m : List ℕ) (each : (left : ℕ) → turn (on (f (suc left)) m) ≡ gives (owing l (suc left)) (on (f left) m)) where
  pub each_owed : Sends turn (λ sent left. f left) l (length l) m
  each_owed sent left h =
      let i : length l - suc left ≡ sent = omega arith in
      each left ∙ ap (λ (k : ℕ). gives (get_or l k 0) (on (f left) m)) i

  pub owed_leaf : {bytes room room' : List ℕ} {left n : ℕ} {s x : State} → bytes ≡ l → 0 < left → left ≤ length l → s ≡ f left
      → Given bytes left room n room' → x ≡ f (left - n) → Emits turn (on s m) room n (on x m) room'
  owed_leaf {room = room} {left = left} {n = n} q some fits p g e =
      send_leaf (λ sent left. f left) l (length l) each_owed {off = length l - left} p g.least some (omega arith) (omega arith) e
      (g.written ∙ ap (λ (b : List ℕ). paste room 0 (drop (length b - left) b) n) q)

-- ---- the handshake's bytes that are not kept
pub skip_leaf : (n : ℕ) {m input : List ℕ} {left k : ℕ} {x : State} → 0 < left → k ≡ min left (length input) → x ≡ newstyle n (left - k)
    → Absorbs turn (on (Shaking n (Newstyle left)) m) input k (on x m)
skip_leaf n {left = left} some least e = drop_leaf (newstyle n) (λ _ _. refl) (newstyle_more n left (omega arith)) least some e

pub filler_leaf : (n size flags : ℕ) (clean : Bool) {m input : List ℕ} {left k : ℕ} {x : State} → 0 < left → k ≡ min left (length input)
    → x ≡ filler n size flags (both clean (blank (take k input))) (left - k) → Absorbs turn (on (Shaking n (Filler size flags clean left)) m) input k (on x m)
filler_leaf n size flags clean {m} {input} {left} {k} some least e =
    fold_leaf (filler n size flags) (λ v b. both v (eqb b 0)) {m = m} (λ _ _. refl) clean (filler_more n size flags clean left (omega arith)) least some
    (e ∙ ap (λ (v : Bool). filler n size flags v (left - k)) (sym (blank_fold clean (take k input))))

-- ---- a read's data: with `left` bytes left, from the place n - left on
module _ (d : Device) (c : Call) where
  pub fills : (is : List ℕ) (left k : ℕ) (m : List ℕ) → left ≤ wanted c → left ≡ length is + k
      → Moves turn (on (filling d c left) m) is [] (on (filling d c k) (sets m (wanted c - left) is))
  fills [] left k m h p =
      let a : left ≡ k = omega arith in
      rw a still
  fills (b ∷ is) zero k m h p = absurd (omega arith)
  fills (b ∷ is) (suc left) k m h p =
      let e : suc (wanted c - suc left) ≡ wanted c - left = omega arith in
      let rest : Moves turn (on (filling d c left) (set m (wanted c - suc left) b)) is [] (on (filling d c k) (sets (set m (wanted c - suc left) b) (suc (wanted c - suc left)) is)) =
      rw e (fills is left k (set m (wanted c - suc left) b) (omega arith) (omega arith)) in
      by_take refl rest

  pub fill_leaf : {m m' input : List ℕ} {left n : ℕ} {x : State} → 0 < left → left ≤ wanted c → wanted c ≤ length m → n ≡ min left (length input)
      → x ≡ filling d c (left - n) → m' ≡ paste m (wanted c - left) input n → Absorbs turn (on (Calling d c (Filling left)) m) input n (on x m')
  fill_leaf {m} {m'} {input} {left} {n} {x} some below fits least e q =
      let k : length (take n input) ≡ n = length-take n input ∙ omega arith in
      let s : sets m (wanted c - left) (take n input) ≡ m' =
      sets-eq (take n input) m (wanted c - left) (omega arith) ∙ rw (k, q) in
      record {
        moves = rw (filling_more d c left (omega arith), e, ← s) (fills (take n input) left (left - n) m below (omega arith));
        within = omega arith;
        stops = λ z _. omega arith;
      }

-- ---- lengths
pub length_hello : (n : ℕ) → length (hello n) ≡ 20
unfolding hello be
length_hello n = refl

pub length_asks : (d : Device) (c : Call) → length (request_bytes d c) ≡ 28
unfolding request be
length_asks d c = refl

pub paid : (d : Device) (c : Call) {k : ℕ} → lent_to c ≡ k → GoodCall d c → payload c ≤ k
paid d (Read n len) e h = omega arith
paid d (Write n len) e h = omega arith
paid d Flush e h = omega arith
paid d (Trim n) e h = omega arith
paid d (Resize size) e h = omega arith

pub filled : (d : Device) (c : Call) {k : ℕ} → lent_to c ≡ k → GoodCall d c → wanted c ≤ k
filled d (Read n len) e h = omega arith
filled d (Write n len) e h = omega arith
filled d Flush e h = omega arith
filled d (Trim n) e h = omega arith
filled d (Resize size) e h = omega arith
