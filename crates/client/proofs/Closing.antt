-- How an open call and the handshake close, whatever comes and however it is cut.
--   passes             what closes has passed each place on its way
--   call_closes        a call has sent exactly its request and its payload, and has taken the reply and, if it succeeded, the data asked for
--   handshake_closes   the handshake has taken 152 bytes, and has sent its 20 bytes and the name, or nothing in the old style
--   carried            and so how many bytes were carried, as 01 has it ("Carried bytes")
use Prim.Native.Nat.{ℕ, zero, suc, ◌+◌, ◌-◌, ◌≤◌, ◌<◌}
use mathlib.Core.Path.{◌≡◌, refl, sym, ap, ◌∙◌}
use mathlib.Core.Logic.{◌⊎◌, inl, inr}
use mathlib.Core.Bool.{Bool, true, false}
use mathlib.Core.List.{List, [], ◌++◌, append-nil}
use native.Mathlib.Omega.{arith}
use borrow.Author.Tests.{le-ltb}
use lib.Dec.{eqb}
use lib.ListN.{length, set, take, drop, replicate, length-append, length-replicate, take-append-drop}
use lib.Seq.{length-take-le}
use Rattle.machine.specs.Choice.{pick, both}
use Rattle.machine.specs.Machine.{Turn, On, on, Moves, still, by_give, by_take}
use Rattle.machine.specs.Stream.{Further}
use Rattle.machine.proofs.Moves.{resting}
use Rattle.machine.proofs.Cutting.{one_way}
use Rattle.wire.specs.Fields.{field, same_bytes}
use Rattle.wire.specs.Constants.{NBDMAGIC, IHAVEOPT, OLDSTYLE, NBD_REPLY_MAGIC}
use Rattle.wire.specs.Layouts.{export_name}
use Rattle.client.specs.Calls.{payload, wanted, request_bytes, value_of}
use Rattle.client.specs.Session.{Magic, Style, Newstyle, SizeAndFlags, Filler, Asking, State, Shaking, Calling, Closed, Over, judge_magic, oldstyle, judge_style, size_and_flags_length, flags_of, judge_size_and_flags, filler, filling, replied, heard, turn}
use Rattle.client.specs.declared.state.Device.{Device}
use Rattle.client.specs.declared.state.Call.{Call}
use Rattle.client.specs.declared.state.Outcome.{Outcome}
use Rattle.client.specs.declared.state.Outcome.TheVariants.{Open, Succeeded, Failed, Ended, Refused}
use Rattle.client.proofs.Alone.{gathered_run, call_heard, greeted_run}
use Rattle.client.proofs.Changes.{taken_to}
use Rattle.client.proofs.Header.{magic_part, style_part, terms_part}
use Rattle.client.proofs.Runs.{length_asks}

-- ---- what closes has passed each place on its way
-- Any k bytes h lead from x to f h, where `sent` has been sent.
pub record Passed (f : List ℕ → On State) (k : ℕ) (sent is os : List ℕ) (y : On State) : Type 0 where
  pub first : List ℕ
  pub rest : List ℕ
  pub more : List ℕ
  pub all_in : is ≡ first ++ rest
  pub long : length first ≡ k
  pub all_out : os ≡ sent ++ more
  pub goes_on : Moves turn (f first) rest more y

module _ {x : On State} (f : List ℕ → On State) (k : ℕ) (sent : List ℕ) (way : (h : List ℕ) → length h ≡ k → Moves turn x h sent (f h))
    {is os m : List ℕ} {o : Outcome} {d : Device} (q : Moves turn x is os (on (Closed o d) m)) where
  -- it does not close before
  enough : length is < k → ⊥
  enough few =
      let pad : List ℕ = replicate (k - length is) 0 in
      let long : length pad ≡ k - length is = length-replicate (k - length is) 0 in
      let e : length (is ++ pad) ≡ k = length-append is pad ∙ omega arith in
      by pad (omega arith) (one_way q (way (is ++ pad) e) (sym (append-nil (is ++ pad))))
    where
      by : (pad : List ℕ) → 0 < length pad → {ps : List ℕ} {y : On State} → Further turn os (on (Closed o d) m) pad ps y [] ⊎ Further turn ps y [] os (on (Closed o d) m) pad → ⊥
      by pad some (inl w) =
          let r = resting refl w.goes_on in
          omega (arith, ap length w.all_in, length-append w.more_in [], ap length r.0)
      by pad some (inr w) = omega (arith, ap length w.all_in, length-append w.more_in pad)

  pub passes : Passed f k sent is os (on (Closed o d) m)
  passes =
      let no : length is < k → ⊥ = enough in
      let e : length (take k is) ≡ k = length-take-le k is (omega arith) in
      by e (one_way (way (take k is) e) q (take-append-drop k is ∙ sym (append-nil is)))
    where
      by : length (take k is) ≡ k → Further turn sent (f (take k is)) (drop k is) os (on (Closed o d) m) [] ⊎ Further turn os (on (Closed o d) m) [] sent (f (take k is)) (drop k is)
          → Passed f k sent is os (on (Closed o d) m)
      by e (inl w) = record {
        first = take k is;
        rest = drop k is;
        more = w.more_out;
        all_in = sym (take-append-drop k is);
        long = e;
        all_out = w.all_out;
        goes_on = rw (w.all_in ∙ append-nil w.more_in) w.goes_on;
      }
      by e (inr w) =
          let t = resting refl w.goes_on in
          record {
            first = take k is;
            rest = [];
            more = [];
            all_in = sym (take-append-drop k is) ∙ ap (λ (l : List ℕ). take k is ++ l) (nothing t.0 w.all_in);
            long = e;
            all_out = sym (append-nil sent ∙ w.all_out ∙ ap (λ (l : List ℕ). os ++ l) t.1 ∙ append-nil os);
            goes_on = rw t.2 still;
          }
        where
          nothing : {i l : List ℕ} → i ≡ [] → [] ≡ i ++ l → l ≡ []
          nothing p q = sym (q ∙ rw p)

-- nothing closes from an end
not_over : (n : ℕ) {m m' is os : List ℕ} {o : Outcome} {d : Device} → Moves turn (on (Over n) m) is os (on (Closed o d) m') → ⊥
not_over n q = let r = resting refl q in let z : ◌≡◌ {A = ℕ} 0 1 = cc r.2 in omega arith

-- ---- a call
-- how much data stands behind the reply, by the outcome
abbrev pub behind : Outcome → Call → ℕ
behind Open c = 0
behind (Succeeded v) c = wanted c
behind (Failed error) c = 0
behind (Ended n) c = 0
behind (Refused n) c = 0

-- from the reply's last byte on: the data, all of it, and nothing is sent
data_closes : (d : Device) (c : Call) (left : ℕ) {m m' is os : List ℕ} {o : Outcome} {d' : Device} → Moves turn (on (filling d c left) m) is os (on (Closed o d') m')
    → (length is ≡ left) × (os ≡ []) × (o ≡ Succeeded (value_of c))
data_closes d c zero still = (refl, refl, refl)
data_closes d c zero (by_give e q) = absurd (let z : ◌≡◌ {A = ℕ} 0 1 = cc in omega arith)
data_closes d c zero (by_take e q) = absurd (let z : ◌≡◌ {A = ℕ} 0 1 = cc in omega arith)
data_closes d c (suc left) (by_give e q) = absurd (let z : ◌≡◌ {A = ℕ} 0 1 = cc in omega arith)
data_closes d c (suc left) {m = m} (by_take {z = z} {k = k} {b = b} e q) =
    let s : on (filling d c left) (set m (wanted c - suc left) b) ≡ k b = ap (λ (t : Turn (On State)). taken_to t b z) e in
    let r = data_closes d c left (rw (sym s) at q) in
    (ap suc r.0, r.1, r.2)

-- what a judged reply leads to
reply_closes : (d : Device) (c : Call) (h : List ℕ) {m m' is os : List ℕ} {o : Outcome} {d' : Device} → Moves turn (on (replied d c h) m) is os (on (Closed o d') m')
    → (length is ≡ behind o c) × (os ≡ [])
unfolding replied
reply_closes d c h {m} {m'} {is} {os} {o} {d'} q = go (eqb (field h 0 4) NBD_REPLY_MAGIC) (eqb (field h 8 8) 0) (eqb (field h 4 4) 0) q
  where
    go : (x y z : Bool) → Moves turn (on (pick x (pick y (pick z (filling d c (wanted c)) (Closed (Failed (field h 4 4)) d)) (Over 46)) (Over 45)) m) is os (on (Closed o d') m')
        → (length is ≡ behind o c) × (os ≡ [])
    go true true true q = let r = data_closes d c (wanted c) q in (rw r.2 r.0, r.1)
    go true true false q =
        let r = resting refl q in
        let e : o ≡ Failed (field h 4 4) = cc r.2 in
        (rw (e, r.0), r.1)
    go true false z q = absurd (not_over 46 q)
    go false y z q = absurd (not_over 45 q)

heard_whole : (d : Device) (c : Call) (h : List ℕ) → length h ≡ 16 → heard d c h ≡ replied d c h
unfolding heard
heard_whole d c h e = rw e

module _ (d : Device) (c : Call) {m m' is os : List ℕ} {o : Outcome} {d' : Device} (fits : payload c ≤ length m)
    (q : Moves turn (on (Calling d c (Asking 28)) m) is os (on (Closed o d') m')) where
  pub call_closes : (os ≡ request_bytes d c ++ take (payload c) m) × (length is ≡ 16 + behind o c)
  call_closes =
      let sent : List ℕ = request_bytes d c ++ take (payload c) m in
      let p = passes (λ h. on (heard d c h) m) 16 sent (λ h e. call_heard d c m fits h e) q in
      let r = reply_closes d c p.first (rw (heard_whole d c p.first p.long) at p.goes_on) in
      (p.all_out ∙ rw r.1 (append-nil sent), ap length p.all_in ∙ length-append p.first p.rest ∙ rw (p.long, r.0))

  -- "Successful read with n > 0: 28 up, 16 + n down. Write with n > 0, failed ones too: 28 + n up, 16 down. Flush, and trim with n > 0: 28 up, 16 down"
  pub carried : (length os ≡ 28 + payload c) × (length is ≡ 16 + behind o c)
  carried =
      let r = call_closes in
      (ap length r.0 ∙ length-append (request_bytes d c) (take (payload c) m) ∙ rw (length_asks d c, length-take-le (payload c) m fits), r.1)

-- ---- the handshake
-- the filler: all of it, and nothing is sent
filler_closes : (n size flags : ℕ) (clean : Bool) (left : ℕ) {m m' is os : List ℕ} {o : Outcome} {d : Device} → Moves turn (on (filler n size flags clean left) m) is os (on (Closed o d) m')
    → (length is ≡ left) × (os ≡ [])
filler_closes n size flags true zero q = let r = resting refl q in (ap length r.0, r.1)
filler_closes n size flags false zero q = absurd (not_over 43 q)
filler_closes n size flags clean (suc left) (by_give e q) = absurd (let z : ◌≡◌ {A = ℕ} 0 1 = cc in omega arith)
filler_closes n size flags clean (suc left) {m = m} (by_take {z = z} {k = k} {b = b} e q) =
    let s : on (filler n size flags (both clean (eqb b 0)) left) m ≡ k b = ap (λ (t : Turn (On State)). taken_to t b z) e in
    let r = filler_closes n size flags (both clean (eqb b 0)) left (rw (sym s) at q) in
    (ap suc r.0, r.1)

terms_some : (old : Bool) → 0 < size_and_flags_length old
terms_some true = omega arith
terms_some false = omega arith

termed_whole : (n : ℕ) (old : Bool) (h : List ℕ) → length h ≡ size_and_flags_length old → judge_size_and_flags n old h ≡ Shaking n (Filler (field h 0 8) (flags_of old h) true 124)
unfolding judge_size_and_flags
termed_whole n old h e = rw (le-ltb (length h) (size_and_flags_length old) (omega arith))

magicked_whole : (n : ℕ) (h : List ℕ) → length h ≡ 8 → judge_magic n h ≡ pick (same_bytes h NBDMAGIC) (Shaking n (Style [])) (Over 40)
unfolding judge_magic
magicked_whole n h e = rw e

styled_whole : (n : ℕ) (h : List ℕ) → length h ≡ 8
    → judge_style n h ≡ pick (same_bytes h IHAVEOPT) (Shaking n (Newstyle 2)) (pick (same_bytes h OLDSTYLE) (oldstyle n) (Over 41))
unfolding judge_style
styled_whole n h e = rw e

terms_close : (n : ℕ) (old : Bool) {m m' is os : List ℕ} {o : Outcome} {d : Device} → Moves turn (on (Shaking n (SizeAndFlags old [])) m) is os (on (Closed o d) m')
    → (length is ≡ size_and_flags_length old + 124) × (os ≡ [])
terms_close n old {m = m} q =
    let p = passes (λ h. on (judge_size_and_flags n old h) m) (size_and_flags_length old) [] (λ h e. gathered_run (λ l. Shaking n (SizeAndFlags old l)) (judge_size_and_flags n old) (size_and_flags_length old) (terms_part n old) h m (λ _. refl) e (terms_some old)) q in
    let r = filler_closes n _ _ true 124 (rw (termed_whole n old p.first p.long) at p.goes_on) in
    (ap length p.all_in ∙ length-append p.first p.rest ∙ rw (p.long, r.0), p.all_out ∙ r.1)

module _ (name : List ℕ) where
  -- in the new style, and in the old one
  abbrev pub Sent : List ℕ → Type 0
  Sent os = (os ≡ export_name name) ⊎ (os ≡ [])

  new_closes : {m' is os : List ℕ} {o : Outcome} {d : Device} → Moves turn (on (Shaking (length name) (Newstyle 2)) name) is os (on (Closed o d) m')
      → (length is ≡ 136) × Sent os
  new_closes q =
      let p = passes (λ _. on (Shaking (length name) (SizeAndFlags false [])) name) 2 (export_name name) (greeted_run name) q in
      let r = terms_close (length name) false p.goes_on in
      (ap length p.all_in ∙ length-append p.first p.rest ∙ rw (p.long, r.0), inl (p.all_out ∙ rw r.1 (append-nil (export_name name))))

  style_closes : {m' is os : List ℕ} {o : Outcome} {d : Device} → Moves turn (on (Shaking (length name) (Style [])) name) is os (on (Closed o d) m')
      → (length is ≡ 144) × Sent os
  style_closes {m'} {o = o} {d = d} q =
      let n : ℕ = length name in
      let p = passes (λ h. on (judge_style n h) name) 8 [] (λ h e. gathered_run (λ l. Shaking n (Style l)) (judge_style n) 8 (style_part n) h name (λ _. refl) e (omega arith)) q in
      let r = go (same_bytes p.first IHAVEOPT) (same_bytes p.first OLDSTYLE) (eqb n 0) (rw (styled_whole n p.first p.long) at p.goes_on) in
      (ap length p.all_in ∙ length-append p.first p.rest ∙ rw (p.long, r.0), rw p.all_out r.1)
    where
      go : (a b c : Bool) {is os : List ℕ}
          → Moves turn (on (pick a (Shaking (length name) (Newstyle 2)) (pick b (pick c (Shaking (length name) (SizeAndFlags true [])) (Over 42)) (Over 41))) name) is os (on (Closed o d) m')
          → (length is ≡ 136) × Sent os
      go true b c q = new_closes q
      go false true true q = let r = terms_close (length name) true q in (r.0, inr r.1)
      go false true false q = absurd (not_over 42 q)
      go false false c q = absurd (not_over 41 q)

  pub handshake_closes : {m' is os : List ℕ} {o : Outcome} {d : Device} → Moves turn (on (Shaking (length name) (Magic [])) name) is os (on (Closed o d) m')
      → (length is ≡ 152) × Sent os
  handshake_closes {m'} {o = o} {d = d} q =
      let n : ℕ = length name in
      let p = passes (λ h. on (judge_magic n h) name) 8 [] (λ h e. gathered_run (λ l. Shaking n (Magic l)) (judge_magic n) 8 (magic_part n) h name (λ _. refl) e (omega arith)) q in
      let r = go (same_bytes p.first NBDMAGIC) (rw (magicked_whole n p.first p.long) at p.goes_on) in
      (ap length p.all_in ∙ length-append p.first p.rest ∙ rw (p.long, r.0), rw p.all_out r.1)
    where
      go : (a : Bool) {is os : List ℕ} → Moves turn (on (pick a (Shaking (length name) (Style [])) (Over 40)) name) is os (on (Closed o d) m')
          → (length is ≡ 144) × Sent os
      go true q = style_closes q
      go false q = absurd (not_over 40 q)
