-- What follows from the contracts of the public functions.
--   same_result, same_closed, same_header   two results that are allowed for one call of `step`, `end_of_input` or `oldstyle_header` are equal
--   stepped_same        what `step` answers is equal where its parts are
--   within              the counts of a step lie within what was lent, and the room is as long as it was, refused or not
--   never_refused       after a step that was not refused, the same table and an image as long are not refused
--   image_length        a step leaves the image as long as it was
--   step_in_range, end_in_range   a struct within its ranges is followed by such a struct, whatever is lent, refused or not
--   in_range_for_ever   "no state reached from a fresh one breaks them"
--   refused_27          a step answers 27 exactly for a struct outside its ranges
--   one_struct          a struct within its ranges is the one struct of its state
--   reached_one_struct  so is every struct that is reached
--   ended_repeats, ended_closed   "later steps repeat the number and move nothing"
use Prim.Native.Nat.{ℕ, zero, suc, ◌+◌, ◌-◌, ◌≤◌}
use mathlib.Core.Path.{◌≡◌, refl, sym, ap, ◌∙◌}
use mathlib.Core.Bool.{Bool, true, false}
use mathlib.Core.List.{List, [], ◌∷◌, ◌++◌}
use mathlib.Core.Logic.{◌⊎◌, inl, inr, ◌↔◌}
use native.Mathlib.Omega.{arith}
use borrow.Author.Tests.{eqb-true}
use lib.Dec.{eqb, leb}
use lib.ListN.{length, take, drop, replicate, length-drop, take-append-drop}
use Rattle.machine.specs.Choice.{pick}
use Rattle.machine.specs.Machine.{on}
use Rattle.machine.proofs.Moves.{resting}
use Rattle.machine.proofs.Runs.{same_step, taken_length, given_length}
use Rattle.wire.specs.Table.{first_fault, fault}
use Rattle.wire.specs.declared.table.Export.{Export}
use Rattle.wire.proofs.Tests.{both_left, both_right}
use Rattle.wire.proofs.Soundness.{fault_range}
use Rattle.machine.specs.Parts.{blank}
use Rattle.server.specs.Session.{Handshake, Greeting, ClientFlags, OptionHead, Naming, Passing, Listing, Declining, Aborting, Exporting}
use Rattle.server.specs.Session.{State, Shaking, Serving, Over}
use Rattle.server.specs.View.{view, code}
use Rattle.server.specs.View.{used}
use Rattle.server.specs.Ranges.{tidy, ranged, in_range, window_fault, window_fault_shaking, loan_fault, refusal}
use Rattle.server.specs.Inner.{Good}
use Rattle.server.specs.Contract.{outcome_of, Serves, owes_output, cut_off, ended_at, end_of_input, Closes, header_of, Heads}
use Rattle.server.specs.History.{Reached, fresh, stepped, closed}
use Rattle.server.specs.declared.state.Server.{Server}
use Rattle.server.specs.Answers.{Stepped, InputEnded}
use Rattle.server.specs.declared.state.Outcome.TheVariants.{Ended, Refused}
use Rattle.server.specs.declared.oldstyle.NoRoom.{NoRoom}
use Rattle.std.specs.Prelude.{Result, Ok, Err, ⊤}
use Rattle.server.proofs.Bounds.{accepted}
use Rattle.server.proofs.Kept.{still_good, next_good}
use Rattle.server.proofs.Tidy.{Digits, over_digits, in_range_lem, coded, used_fits}

-- ---- two results of one call
pub stepped_same : {r r' : Stepped} → r.state ≡ r'.state → r.taken ≡ r'.taken → r.given ≡ r'.given → r.outcome ≡ r'.outcome → r ≡ r'
stepped_same {r} {r'} a b c d =
    let same : ◌≡◌ {A = Stepped} (record { state = r.state; taken = r.taken; given = r.given; outcome = r.outcome })
    (record { state = r'.state; taken = r'.taken; given = r'.given; outcome = r'.outcome }) = rw (a, b, c, d) in
    same

pub same_result : {self : Server} {t m input room : List ℕ} {r r' : Stepped} {m' m'' room' room'' : List ℕ}
    → Serves self t m input room r m' room' → Serves self t m input room r' m'' room'' → (r ≡ r') × (m' ≡ m'') × (room' ≡ room'')
same_result {self} {t} {m} {r = r} {r' = r'} {m' = m'} {m'' = m''} {room' = room'} {room'' = room''} p q = go (refusal t (length m) self) refl
  where
    go : (n : ℕ) → refusal t (length m) self ≡ n → (r ≡ r') × (m' ≡ m'') × (room' ≡ room'')
    go (suc n) e =
        let a = p.refuses λ z. omega (arith, sym e ∙ z) in
        let b = q.refuses λ z. omega (arith, sym e ∙ z) in
        (a.result ∙ sym b.result, a.same_image ∙ sym b.same_image, a.same_room ∙ sym b.same_room)
    go zero e =
        let a = p.accepts e in
        let b = q.accepts e in
        let s = same_step a.steps b.steps in
        let v : view r.state ≡ view r'.state = cc s.same_place in
        let c : r.state ≡ r'.state = a.one_struct ∙ ap code v ∙ sym b.one_struct in
        let o : r.outcome ≡ r'.outcome = a.outcome ∙ ap outcome_of v ∙ sym b.outcome in
        (stepped_same c s.same_taken s.same_given o, cc s.same_place, s.same_room)

pub same_closed : {self : Server} {r r' : InputEnded} → Closes self r → Closes self r' → r ≡ r'
same_closed p q = p.result ∙ sym q.result

pub same_header : {room : List ℕ} {size flags : ℕ} {r r' : Result ⊤ NoRoom} {room' room'' : List ℕ}
    → Heads room size flags r room' → Heads room size flags r' room'' → (r ≡ r') × (room' ≡ room'')
same_header {r = r} {r' = r'} p q = (one_answer r r' (p.number ∙ sym q.number), p.written ∙ sym q.written)
  where
    one_answer : (a b : Result ⊤ NoRoom) → header_of a ≡ header_of b → a ≡ b
    one_answer (Ok t) (Ok u) e = refl
    one_answer (Ok t) (Err b) e = absurd (let z : ◌≡◌ {A = ℕ} 0 1 = cc in omega arith)
    one_answer (Err a) (Ok u) e = absurd (let z : ◌≡◌ {A = ℕ} 0 1 = cc in omega arith)
    one_answer (Err a) (Err b) e = refl

-- ---- the ranges
module _ {self : Server} {t m input room : List ℕ} {r : Stepped} {m' room' : List ℕ} (p : Serves self t m input room r m' room') where
  after : refusal t (length m) self ≡ 0 → Good t (length m') (view r.state) × (in_range r.state ≡ true)
  after e =
      let a = p.accepts e in
      let g = next_good a.steps.goes.moves (accepted t (length m) self e) in
      (g, in_range_lem (view r.state) a.one_struct g.within)

  pub never_refused : refusal t (length m) self ≡ 0 → refusal t (length m') r.state ≡ 0
  never_refused e = let a = after e in rw a.1 a.0.fits

  pub within : (r.taken ≤ length input) × (r.given ≤ length room) × (length room' ≡ length room)
  within = go (refusal t (length m) self) refl
    where
      go : (n : ℕ) → refusal t (length m) self ≡ n → (r.taken ≤ length input) × (r.given ≤ length room) × (length room' ≡ length room)
      go zero e = let g = (p.accepts e).steps.goes in (g.within_input, g.within_room, g.whole)
      go (suc n) e =
          let k = p.refuses (λ z. omega (arith, z, e)) in
          let i : r.taken ≡ 0 = ap (λ (x : Stepped). x.taken) k.result in
          let o : r.given ≡ 0 = ap (λ (x : Stepped). x.given) k.result in
          (omega (arith, i), omega (arith, o), ap length k.same_room)

  pub image_length : length m' ≡ length m
  image_length = go (refusal t (length m) self) refl
    where
      go : (n : ℕ) → refusal t (length m) self ≡ n → length m' ≡ length m
      go (suc n) e = ap length (p.refuses (λ z. omega (arith, sym e ∙ z))).same_image
      go zero e = (still_good (p.accepts e).steps.goes.moves (accepted t (length m) self e)).0

  pub step_in_range : in_range self ≡ true → in_range r.state ≡ true
  step_in_range h = go (refusal t (length m) self) refl
    where
      go : (n : ℕ) → refusal t (length m) self ≡ n → in_range r.state ≡ true
      go (suc n) e = let a = p.refuses λ z. omega (arith, sym e ∙ z) in ap (λ (x : Stepped). in_range x.state) a.result ∙ h
      go zero e = (after e).1

pub end_in_range : (s : Server) → in_range s ≡ true → in_range (end_of_input s).state ≡ true
end_in_range s h = rw h (at_end (view s))
  where
    cut : (b : Bool) → in_range (cut_off s b).state ≡ true
    cut true = h
    cut false = refl

    at_end : (x : State) → in_range (ended_at s x).state ≡ true
    at_end (Shaking p) = cut (owes_output (Shaking p))
    at_end (Serving e p) = cut (owes_output (Serving e p))
    at_end (Over n) = h

pub in_range_for_ever : {s : Server} → Reached s → in_range s ≡ true
in_range_for_ever fresh = refl
in_range_for_ever (stepped p q) = step_in_range q (in_range_for_ever p)
in_range_for_ever (closed {s = s} p) = end_in_range s (in_range_for_ever p)

-- ---- 27
window_not_27 : (n : ℕ) (x : Export) → window_fault n x ≡ 27 → ⊥
window_not_27 n x e = go (leb (x.start + x.size) n) e
  where
    go : (b : Bool) → pick {A = ℕ} b 0 26 ≡ 27 → ⊥
    go true e = omega arith
    go false e = omega arith

chosen_not_27 : (n : ℕ) (p : Handshake) → window_fault_shaking n p ≡ 27 → ⊥
chosen_not_27 n (Greeting left) e = omega arith
chosen_not_27 n (ClientFlags got) e = omega arith
chosen_not_27 n (OptionHead z got) e = omega arith
chosen_not_27 n (Naming z fits text at left) e = omega arith
chosen_not_27 n (Passing z option len left) e = omega arith
chosen_not_27 n (Listing z left) e = omega arith
chosen_not_27 n (Declining z option left) e = omega arith
chosen_not_27 n (Aborting left) e = omega arith
chosen_not_27 n (Exporting z x left) e = window_not_27 n x e

table_not_27 : (f later : ℕ) → (f ≡ 0) ⊎ ((20 ≤ f) × (f ≤ 25)) → (later ≡ 27 → ⊥) → first_fault f later ≡ 27 → ⊥
table_not_27 zero later r h e = h e
table_not_27 (suc f) later (inl z) h e = omega arith
table_not_27 (suc f) later (inr b) h e = omega (arith, b.1)

lent_not_27 : (t : List ℕ) (n : ℕ) (x : State) → loan_fault t n x ≡ 27 → ⊥
lent_not_27 t n (Shaking p) e = table_not_27 (fault n t) (window_fault_shaking n p) (fault_range n t) (chosen_not_27 n p) e
lent_not_27 t n (Serving x p) e = window_not_27 n x e
lent_not_27 t n (Over k) e = omega arith

pub refused_27 : (t : List ℕ) (n : ℕ) (s : Server) → (refusal t n s ≡ 27) ↔ (in_range s ≡ false)
refused_27 t n s = (λ e. go (in_range s) refl e, λ h. rw h)
  where
    go : (b : Bool) → in_range s ≡ b → pick b (loan_fault t n (view s)) 27 ≡ 27 → in_range s ≡ false
    go true h e = absurd (lent_not_27 t n (view s) e)
    go false h e = h

-- ---- one struct for each state
blank_replicate : (l : List ℕ) → blank l ≡ true → l ≡ replicate (length l) 0
blank_replicate [] e = refl
blank_replicate (b ∷ l) e =
    let h = eqb-true b 0 (both_left (eqb b 0) (blank l) e) in
    let r = blank_replicate l (both_right (eqb b 0) (blank l) e) in
    cc

pub one_struct : (s : Server) → length s.head ≡ 28 → Digits s.phase → in_range s ≡ true → s ≡ code (view s)
one_struct s long d h =
    let k = used s.phase in
    let f = used_fits s.head long s.phase (both_right (tidy s) (ranged (view s)) h) in
    let z : drop k s.head ≡ replicate (28 - k) 0 =
    blank_replicate (drop k s.head) (both_left (tidy s) (ranged (view s)) h)
    ∙ ap (λ (n : ℕ). replicate n 0) (length-drop k s.head ∙ ap (λ (n : ℕ). n - k) long) in
    let w : take k s.head ++ replicate (28 - k) 0 ≡ s.head = ap (λ (l : List ℕ). take k s.head ++ l) (sym z) ∙ take-append-drop k s.head in
    let e : ◌≡◌ {A = Server} (record { phase = s.phase; head = take k s.head ++ replicate (28 - k) 0 }) (record { phase = s.phase; head = s.head }) =
    ap (λ (l : List ℕ). record { phase = s.phase; head = l }) w in
    sym (coded s.head long s.phase f d ∙ e)

pub reached_one_struct : {s : Server} → Reached s → s ≡ code (view s)
reached_one_struct fresh = refl
reached_one_struct (stepped {s = s} {t = t} {m = m} {r = r} p q) = go (refusal t (length m) s) refl (reached_one_struct p)
  where
    go : (n : ℕ) → refusal t (length m) s ≡ n → s ≡ code (view s) → r.state ≡ code (view r.state)
    go (suc n) e h =
        let a = q.refuses λ z. omega (arith, sym e ∙ z) in
        let i : r.state ≡ s = ap (λ (x : Stepped). x.state) a.result in
        i ∙ h ∙ ap (λ (x : Server). code (view x)) (sym i)
    go zero e h = (q.accepts e).one_struct
reached_one_struct (closed {s = s} p) = go (in_range s) (view s) (reached_one_struct p)
  where
    Same : InputEnded → Type 0
    Same r = r.state ≡ code (view r.state)

    cut : (b : Bool) → s ≡ code (view s) → Same (cut_off s b)
    cut true h = h
    cut false h = refl

    go : (b : Bool) (x : State) → s ≡ code (view s) → Same (pick b (ended_at s x) (record { state = s; outcome = Refused 27 }))
    go true (Shaking p) h = cut (owes_output (Shaking p)) h
    go true (Serving e p) h = cut (owes_output (Serving e p)) h
    go true (Over n) h = h
    go false x h = h

-- ---- an ended session
module _ {self : Server} {n : ℕ} (long : length self.head ≡ 28) (within : in_range self ≡ true) (ended : view self ≡ Over n) where
  pub ended_repeats : {t m input room : List ℕ} {r : Stepped} {m' room' : List ℕ} → Serves self t m input room r m' room'
      → (r ≡ record { state = self; taken = 0; given = 0; outcome = Ended n }) × (m' ≡ m) × (room' ≡ room)
  ended_repeats {t} {m} {input} {room} {r} {m'} {room'} p =
      let a = p.accepts (rw (within, ended)) in
      let g = a.steps.goes in
      let w = resting {x = on (Over n) m} refl (rw ended at g.moves) in
      let i : r.taken ≡ 0 = sym (taken_length g) ∙ ap length w.0 in
      let o : r.given ≡ 0 = sym (given_length g) ∙ ap length w.1 in
      let v : view r.state ≡ Over n = cc w.2 in
      let s : r.state ≡ self = a.one_struct ∙ ap code (v ∙ sym ended) ∙ sym (one_struct self long (over_digits self.head self.phase ended) within) in
      let x : r.outcome ≡ Ended n = a.outcome ∙ ap outcome_of v in
      (stepped_same s i o x, cc w.2, rw o at g.rest)

  pub ended_closed : end_of_input self ≡ record { state = self; outcome = Ended n }
  ended_closed = rw (within, ended)
