-- On the oracle domain the client does what document 000's does: the handshake and any calls, up to the first fault. The input is any bytes that a server
-- may send, cut in any way; what is left of it, what was sent, and each call's number, values and buffer are those of the crate's own reading.
--   driven_reached       a client that was stepped is one that a host can come to
--   agreed               an open call or handshake that was stepped until nothing more moves
--   Closes, closing_at   what a place says that closes a call
--   state_of, outcome_is, begun   of two equal answers; of the handshake's call
--   hosted_same          from a client whose handshake is closed
--   hosts_same           from a fresh client, on the domain
use Prim.Native.Nat.{ℕ}
use mathlib.Core.Path.{◌≡◌, refl, ap}
use mathlib.Core.Bool.{true, false}
use mathlib.Core.Logic.{◌⊎◌, inl, inr}
use mathlib.Core.List.{List, [], ◌∷◌}
use Rattle.std.specs.Prelude.{Some}
use native.Mathlib.Omega.{arith}
use borrow.Author.Tests.{le-leb}
use lib.ListN.{length}
use Rattle.machine.specs.Machine.{on}
use Rattle.client.specs.Session.{State, Blank, Magic, Shaking, Ready, Calling, Closed, Over}
use Rattle.client.specs.View.{code}
use Rattle.client.specs.Ranges.{in_range}
use Rattle.client.specs.Contract.{after, outcome_of, values_in, answer, fresh, end_of_input}
use Rattle.client.specs.History.{Driven, once, again, Reached, at_first, by_call, by_step, to_shake, answered}
use Rattle.client.specs.declared.state.Client.{Client}
use Rattle.client.specs.declared.state.Device.{Device}
use Rattle.client.specs.declared.state.Outcome.{Outcome}
use Rattle.client.specs.declared.state.Outcome.TheVariants.{Open, Succeeded, Failed, Ended, Refused}
use Rattle.client.specs.Answers.{Called}
use Rattle.client.proofs.Tidy.{viewed}
use Rattle.client.proofs.Result.{in_ranges}
use Rattle.client.proofs.Cutting.{driven_session}
use Rattle.original.specs.Client.{NbdClient, Answer, ok, failed, fault, Done, Call, made, handshake}
use Rattle.original.specs.ClientSession.{Told, result_of, onward, calls, uses, session, asked, buffer, told, is_open, is_closed, Stepped, closing, ending}
use Rattle.original.specs.ClientSession.{Domain, Hosted, no_more, at_once, closes, ends, Hosts, opens, breaks_off}
use Rattle.original.proofs.Reaches.{Agrees, one_end}
use Rattle.original.proofs.ClientMeets.{client_of, answer_of, Meets}
use Rattle.original.proofs.ClientMade.{AtOnce, GoesOut, prompt_answer, Prompt, made_agrees}
use Rattle.original.proofs.ClientShakes.{handshake_meets}

pub driven_reached : {s : Client} {m stream given m' rest : List ℕ} {x : State} → Driven s m stream given x m' rest → Reached s → Reached (code (after x))
driven_reached (once n d fine) h = rw (d.accepts fine).state at (by_step h d)
driven_reached (again n d fine still p) h = driven_reached p (by_step h d)

-- ---- an open call or handshake, stepped until nothing more moves
abbrev pub Agreed : Done → List ℕ → State → List ℕ → List ℕ → Type 0
Agreed r given x m rest = Agrees answer_of r.left r.sent r.buffer (Some r.answer) given x m rest

pub agreed : {x₀ x : State} {m input given m' rest : List ℕ} (r : Done) → Meets (on x₀ m) input r → Stepped (code x₀) m input given x m' rest → Agreed r given x m' rest
agreed {x₀} r meets s = one_end meets (rw (viewed x₀) at (driven_session s.driven)) s.finished

-- what a place that closes a call says
pub record Closes (x : State) : Type 0 where
  pub device : Device
  pub ready : after x ≡ Ready device
  pub answer : Answer
  pub same_answer : answer_of x ≡ Some answer
  pub same_result : (m : List ℕ) → told (outcome_of x) m ≡ result_of answer m
  pub goes_on : (left : List ℕ) (more : NbdClient → List ℕ → Told) → onward answer left more ≡ more (client_of device) left

pub closing_at : (x : State) (a : Answer) → is_closed x ≡ true → answer_of x ≡ Some a → Closes x
closing_at Blank a e h = absurd (let z : ◌≡◌ {A = ℕ} 0 1 = cc in omega arith)
closing_at (Shaking n p) a e h = absurd (let z : ◌≡◌ {A = ℕ} 0 1 = cc in omega arith)
closing_at (Ready d) a e h = absurd (let z : ◌≡◌ {A = ℕ} 0 1 = cc in omega arith)
closing_at (Calling d c p) a e h = absurd (let z : ◌≡◌ {A = ℕ} 0 1 = cc in omega arith)
closing_at (Closed Open d) a e h = absurd (let z : ◌≡◌ {A = ℕ} 0 1 = cc in omega arith)
closing_at (Closed (Succeeded v) d) a e h = record { device = d; ready = refl; answer = ok (values_in v) (client_of d); same_answer = refl; same_result = λ m. refl; goes_on = λ left more. refl }
closing_at (Closed (Failed error) d) a e h = record { device = d; ready = refl; answer = failed error (client_of d); same_answer = refl; same_result = λ m. refl; goes_on = λ left more. refl }
closing_at (Closed (Ended n) d) a e h = absurd (let z : ◌≡◌ {A = ℕ} 0 1 = cc in omega arith)
closing_at (Closed (Refused n) d) a e h = absurd (let z : ◌≡◌ {A = ℕ} 0 1 = cc in omega arith)
closing_at (Over n) a e h = absurd (let z : ◌≡◌ {A = ℕ} 0 1 = cc in omega arith)

-- and one that does not, once the end of input is reported
record Ends (x : State) : Type 0 where
  number : ℕ
  reported : (end_of_input (code (after x))).outcome ≡ Ended number
  same_answer : answer_of x ≡ Some (fault number)

ending_at : (x : State) → is_closed x ≡ false → in_range (code (after x)) ≡ true → Ends x
ending_at Blank e h = record { number = 50; reported = refl; same_answer = refl }
ending_at (Shaking n p) e h = record { number = 50; reported = rw h; same_answer = refl }
ending_at (Ready d) e h = record { number = 50; reported = refl; same_answer = refl }
ending_at (Calling d c p) e h = record { number = 50; reported = rw h; same_answer = refl }
ending_at (Closed o d) e h = absurd (let z : ◌≡◌ {A = ℕ} 0 1 = cc in omega arith)
ending_at (Over n) e h = record { number = n; reported = rw h; same_answer = refl }

module _ (r : Done) {given m rest : List ℕ} {x : State} (a : Agreed r given x m rest) (more : NbdClient → List ℕ → Told) where
  closed_same : (c : Closes x) {t : Told} → t ≡ more (client_of c.device) rest → closing given x m t ≡ calls r more
  closed_same c e =
      let w : r.answer ≡ c.answer = cc (a.same_answer, c.same_answer) in
      rw (e, c.same_result m, w, c.goes_on, a.same_sent, a.same_store, a.same_left)

  ended_same : Ends x → ending given x m rest ≡ calls r more
  ended_same e =
      let w : r.answer ≡ fault e.number = cc (a.same_answer, e.same_answer) in
      rw (e.reported, w, a.same_sent, a.same_store, a.same_left)

-- a call that is answered at once is not open
not_open : (o : Outcome) → Prompt o → is_open o ≡ true → ⊥
not_open Open h e = h
not_open (Succeeded v) h e = let z : ◌≡◌ {A = ℕ} 0 1 = cc in omega arith
not_open (Failed error) h e = h
not_open (Ended n) h e = h
not_open (Refused n) h e = let z : ◌≡◌ {A = ℕ} 0 1 = cc in omega arith

-- and goes on as document 000 does
at_once_same : (o : Outcome) → Prompt o → (d : Device) (m left : List ℕ) (more : NbdClient → List ℕ → Told)
    → (told o m ≡ result_of (prompt_answer o d) m) × (onward (prompt_answer o d) left more ≡ more (client_of d) left)
at_once_same Open h d m left more = absurd h
at_once_same (Succeeded v) h d m left more = (refl, refl)
at_once_same (Failed error) h d m left more = absurd h
at_once_same (Ended n) h d m left more = absurd h
at_once_same (Refused n) h d m left more = (refl, refl)

pub state_of : {a b : Called} → a ≡ b → a.state ≡ b.state
state_of e = ap (λ (r : Called). r.state) e

pub outcome_is : {a b : Called} → a ≡ b → a.outcome ≡ b.outcome
outcome_is e = ap (λ (r : Called). r.outcome) e

-- an open call: which one, and what the machine does
out : (d : Device) (k : Call) (input : List ℕ) → is_open (answered (asked k) (code (Ready d))).outcome ≡ true → GoesOut d k input (made (client_of d) k input)
out d k input e = go (made_agrees d input k)
  where
    go : AtOnce d k input (made (client_of d) k input) ⊎ GoesOut d k input (made (client_of d) k input) → GoesOut d k input (made (client_of d) k input)
    go (inl a) = absurd (not_open a.outcome a.prompt (rw (outcome_is a.answers) at e))
    go (inr g) = g

prompt : (d : Device) (k : Call) (input : List ℕ) → is_open (answered (asked k) (code (Ready d))).outcome ≡ false → AtOnce d k input (made (client_of d) k input)
prompt d k input e = go (made_agrees d input k)
  where
    go : AtOnce d k input (made (client_of d) k input) ⊎ GoesOut d k input (made (client_of d) k input) → AtOnce d k input (made (client_of d) k input)
    go (inl a) = a
    go (inr g) = absurd (let z : is_open Open ≡ false = rw (outcome_is g.answers) at e in let y : ◌≡◌ {A = ℕ} 0 1 = cc in omega arith)

pub hosted_same : (ks : List Call) (d : Device) {input : List ℕ} {t : Told} → Reached (code (Ready d)) → Hosted (code (Ready d)) ks input t → t ≡ uses (client_of d) ks input
unfolding uses
hosted_same [] d h no_more = refl
hosted_same (k ∷ ks) d {input = input} h (at_once e p) =
    let a = prompt d k input e in
    let s = state_of a.answers in
    let rest = hosted_same ks a.device (rw s at (by_call (asked k) h)) (rw s at p) in
    let w = at_once_same a.outcome a.prompt a.device (buffer k) input (λ c left. uses c ks left) in
    rw (outcome_is a.answers, a.same, w.0, w.1, rest)
hosted_same (k ∷ ks) d {input = input} h (closes {x = x} e s q p) =
    let g = out d k input e in
    let v = state_of g.answers in
    let a = agreed (made (client_of d) k input) g.meets (rw v at s) in
    let c = closing_at x _ q a.same_answer in
    let r = driven_reached s.driven (by_call (asked k) h) in
    closed_same (made (client_of d) k input) a (λ c left. uses c ks left) c (hosted_same ks c.device (rw c.ready at r) (rw c.ready at p))
hosted_same (k ∷ ks) d {input = input} h (ends {x = x} e s q) =
    let g = out d k input e in
    let a = agreed (made (client_of d) k input) g.meets (rw (state_of g.answers) at s) in
    ended_same (made (client_of d) k input) a (λ c left. uses c ks left) (ending_at x q (in_ranges (driven_reached s.driven (by_call (asked k) h))))

pub begun : (name : List ℕ) → Domain name → answered (to_shake (length name)) fresh ≡ answer (Shaking (length name) (Magic [])) Open
begun name domain = rw (le-leb (length name) 4096 domain)

pub hosts_same : {name input : List ℕ} {ks : List Call} {t : Told} → Domain name → Hosts name ks input t → t ≡ session name ks input
hosts_same {name} {input} {ks} domain (opens {x = x} s q p) =
    let a = agreed (handshake name input) (handshake_meets name input) (rw (state_of (begun name domain)) at s) in
    let c = closing_at x _ q a.same_answer in
    let r = driven_reached s.driven (by_call (to_shake (length name)) at_first) in
    closed_same (handshake name input) a (λ c left. uses c ks left) c (hosted_same ks c.device (rw c.ready at r) (rw c.ready at p))
hosts_same {name} {input} {ks} domain (breaks_off {x = x} s q) =
    let a = agreed (handshake name input) (handshake_meets name input) (rw (state_of (begun name domain)) at s) in
    ended_same (handshake name input) a (λ c left. uses c ks left) (ending_at x q (in_ranges (driven_reached s.driven (by_call (to_shake (length name)) at_first))))
