-- The sessions that ClientTheorem.antt speaks of are there, for any name of the domain, any calls and any input: by the contract of `step`, each call stepped
-- once, on all that is left and with room for what document 000 sends, comes to its end.
--   met            what the contract says of such a step
--   hosted_there   from a client whose handshake is closed
--   hosts_there    from a fresh client; and it is document 000's session
use Prim.Native.Nat.{ℕ, ◌+◌}
use mathlib.Core.Path.{◌≡◌, refl, sym, ap, subst, ◌∙◌}
use mathlib.Core.Bool.{Bool, true, false}
use mathlib.Core.Logic.{◌⊎◌, inl, inr}
use mathlib.Core.List.{List, [], ◌∷◌}
use Rattle.std.specs.Prelude.{Some}
use native.Mathlib.Omega.{arith}
use borrow.Author.Tests.{eq-eqb}
use lib.ListN.{length, take, drop, replicate, length-append, length-replicate, drop_of_length-le}
use lib.Seq.{take-length, drop-length, take-append_seam, drop-append_seam}
use Rattle.machine.specs.Machine.{on}
use Rattle.machine.specs.Pieces.{Steps}
use Rattle.client.specs.Session.{State, Ready, turn}
use Rattle.client.specs.View.{code}
use Rattle.client.specs.Ranges.{refusal}
use Rattle.client.specs.Contract.{Drives, after, outcome_of, fresh}
use Rattle.client.specs.History.{once, Reached, at_first, by_call, to_shake, answered}
use Rattle.client.specs.declared.state.Client.{Client}
use Rattle.client.specs.declared.state.Device.{Device}
use Rattle.client.specs.declared.state.Outcome.{Outcome}
use Rattle.client.specs.declared.state.Outcome.TheVariants.{Open, Succeeded, Failed, Ended, Refused}
use Rattle.client.specs.Answers as driven
use Rattle.client.proofs.Tidy.{viewed}
use Rattle.client.proofs.Numbers.{numbered, valued}
use Rattle.client.proofs.Result.{in_ranges}
use Rattle.original.specs.Client.{Answer, Done, Call, made, handshake}
use Rattle.original.specs.ClientSession.{Told, silence, tells, session, asked, buffer, told, is_open, is_closed, Stepped, closing, ending}
use Rattle.original.specs.ClientSession.{Domain, Hosted, no_more, at_once, closes, ends, Hosts, opens, breaks_off}
use Rattle.original.proofs.ClientMeets.{client_of, answer_of, Meets}
use Rattle.original.proofs.ClientMade.{AtOnce, GoesOut, Prompt, made_agrees}
use Rattle.original.proofs.ClientTheorem.{driven_reached, agreed, closing_at, state_of, outcome_is, begun, hosts_same}
use Rattle.original.proofs.ClientShakes.{handshake_meets}

record Made (s : Client) (m input : List ℕ) : Type 0 where
  given : List ℕ
  place : State
  lent : List ℕ
  rest : List ℕ
  stepped : Stepped s m input given place lent rest

-- ---- one step, by the contract
module _ {x₀ : State} {m input : List ℕ} (o : Done) (meets : Meets (on x₀ m) input o) (fine : refusal (length m) (code x₀) ≡ 0) where
  abbrev room : List ℕ
  room = replicate (length o.sent) 0

  abbrev result : driven.Stepped
  result = record { state = code (after meets.state); taken = length meets.taken; given = length o.sent; outcome = outcome_of meets.state }

  in_all : length input ≡ length meets.taken + length o.left
  in_all = ap length meets.all_in ∙ length-append meets.taken o.left

  as_far : Steps turn (on x₀ m) input room (length meets.taken) (length o.sent) (on meets.state o.buffer) o.sent
  as_far =
      let l : length room ≡ length o.sent = length-replicate {A = ℕ} (length o.sent) 0 in
      let t : take (length meets.taken) input ≡ meets.taken = ap (take (length meets.taken)) meets.all_in ∙ take-append_seam meets.taken o.left in
      record {
        goes = record {
          moves = rw (t, take-length o.sent) meets.moves;
          within_input = omega (arith, in_all);
          within_room = omega arith;
          rest = drop-length o.sent ∙ sym (drop_of_length-le room {i = length o.sent} (omega arith));
          whole = sym l;
        };
        stops = record {
          no_input = λ w. omega (arith, in_all, ap length (meets.finished.none_left w));
          no_room = λ w. omega arith;
        };
      }

  pub met : Drives (code x₀) m (take (length input) input) room result o.buffer o.sent
  met = record {
    refuses = λ no. absurd (no fine);
    accepts = λ _. record { place = meets.state; steps = rw (take-length input, viewed x₀) as_far; state = refl; outcome = refl; number = numbered meets.state; values = valued meets.state };
  }

  steps_once : Made (code x₀) m input
  unfolding met
  steps_once =
      let d : drop (length meets.taken) input ≡ o.left = ap (drop (length meets.taken)) meets.all_in ∙ drop-append_seam meets.taken o.left in
      record {
        given = take (length o.sent) o.sent;
        place = meets.state;
        lent = o.buffer;
        rest = drop (length meets.taken) input;
        stepped = record { driven = once (length input) met fine; finished = rw d meets.finished };
      }

-- an open call is not refused
call_made : (d : Device) (k : Call) (input : List ℕ) → Reached (code (Ready d)) → (g : GoesOut d k input (made (client_of d) k input))
    → Made (answered (asked k) (code (Ready d))).state (buffer k) input
call_made d k input h g =
    let s = state_of g.answers in
    let within = in_ranges (rw s at (by_call (asked k) h)) in
    rw s (steps_once (made (client_of d) k input) g.meets (rw (within, g.lends, eq-eqb (length (buffer k)) (length (buffer k)) refl)))

-- the calls that are left, from any ready client
abbrev There : List Call → Type 0
There ks = (d : Device) → Reached (code (Ready d)) → (input : List ℕ) → (t : Told) × Hosted (code (Ready d)) ks input t

-- from where an open call or the handshake stands in the end
further : (ks : List Call) → There ks → (x : State) (a : Answer) → answer_of x ≡ Some a → Reached (code (after x)) → (rest : List ℕ)
    → ((is_closed x ≡ true) × (t : Told) × Hosted (code (after x)) ks rest t) ⊎ (is_closed x ≡ false)
further ks more x a e h rest = go (is_closed x) refl
  where
    go : (b : Bool) → is_closed x ≡ b → ((is_closed x ≡ true) × (t : Told) × Hosted (code (after x)) ks rest t) ⊎ (is_closed x ≡ false)
    go true q =
        let c = closing_at x a q e in
        let r = more c.device (rw c.ready at h) rest in
        inl (q, r.0, rw c.ready r.1)
    go false q = inr q

by_call_there : (k : Call) (ks : List Call) → There ks → There (k ∷ ks)
by_call_there k ks more d h input = go (made_agrees d input k)
  where
    shut : (o : Outcome) → Prompt o → is_open o ≡ false
    shut Open p = absurd p
    shut (Succeeded v) p = refl
    shut (Failed error) p = absurd p
    shut (Ended n) p = absurd p
    shut (Refused n) p = refl

    stepped_there : (w : Made (answered (asked k) (code (Ready d))).state (buffer k) input) → is_open (answered (asked k) (code (Ready d))).outcome ≡ true
        → ((is_closed w.place ≡ true) × (t : Told) × Hosted (code (after w.place)) ks w.rest t) ⊎ (is_closed w.place ≡ false) → (t : Told) × Hosted (code (Ready d)) (k ∷ ks) input t
    stepped_there w e (inl p) = (closing w.given w.place w.lent p.1, closes {s = code (Ready d)} e w.stepped p.0 p.2)
    stepped_there w e (inr q) = (ending w.given w.place w.lent w.rest, ends {s = code (Ready d)} e w.stepped q)

    out_there : GoesOut d k input (made (client_of d) k input) → Made (answered (asked k) (code (Ready d))).state (buffer k) input → (t : Told) × Hosted (code (Ready d)) (k ∷ ks) input t
    out_there g w =
        let a = agreed (made (client_of d) k input) g.meets (rw (state_of g.answers) at w.stepped) in
        stepped_there w (rw (outcome_is g.answers))
        (further ks more w.place (made (client_of d) k input).answer a.same_answer (driven_reached w.stepped.driven (by_call (asked k) h)) w.rest)

    go : AtOnce d k input (made (client_of d) k input) ⊎ GoesOut d k input (made (client_of d) k input) → (t : Told) × Hosted (code (Ready d)) (k ∷ ks) input t
    go (inl a) =
        let s = state_of a.answers in
        let r = more a.device (rw s at (by_call (asked k) h)) input in
        let p : Hosted (answered (asked k) (code (Ready d))).state ks input r.0 = subst (λ (z : Client). Hosted z ks input r.0) (sym s) r.1 in
        let e : is_open (answered (asked k) (code (Ready d))).outcome ≡ false = rw (outcome_is a.answers) (shut a.outcome a.prompt) in
        (tells [] (told (answered (asked k) (code (Ready d))).outcome (buffer k)) r.0, at_once {t = r.0} e p)
    go (inr g) = out_there g (call_made d k input h g)

pub hosted_there : (ks : List Call) → There ks
hosted_there [] = λ d h input. (silence input, no_more)
hosted_there (k ∷ ks) = by_call_there k ks (hosted_there ks)

handshake_made : (name input : List ℕ) → Domain name → Made (answered (to_shake (length name)) fresh).state name input
handshake_made name input domain =
    let s = state_of (begun name domain) in
    let within = in_ranges (rw s at (by_call (to_shake (length name)) at_first)) in
    rw s (steps_once (handshake name input) (handshake_meets name input) (rw (within, eq-eqb (length name) (length name) refl)))

pub hosts_there : (name : List ℕ) (ks : List Call) (input : List ℕ) → Domain name → Hosts name ks input (session name ks input)
hosts_there name ks input domain = opened (handshake_made name input domain)
  where
    told_so : (t : Told) → Hosts name ks input t → Hosts name ks input (session name ks input)
    told_so t p = rw (hosts_same domain p) at p

    go : (w : Made (answered (to_shake (length name)) fresh).state name input)
        → ((is_closed w.place ≡ true) × (t : Told) × Hosted (code (after w.place)) ks w.rest t) ⊎ (is_closed w.place ≡ false) → Hosts name ks input (session name ks input)
    go w (inl p) = told_so (closing w.given w.place w.lent p.1) (opens w.stepped p.0 p.2)
    go w (inr q) = told_so (ending w.given w.place w.lent w.rest) (breaks_off w.stepped q)

    opened : Made (answered (to_shake (length name)) fresh).state name input → Hosts name ks input (session name ks input)
    opened w =
        let a = agreed (handshake name input) (handshake_meets name input) (rw (state_of (begun name domain)) at w.stepped) in
        go w
        (further ks (hosted_there ks) w.place (handshake name input).answer a.same_answer (driven_reached w.stepped.driven (by_call (to_shake (length name)) at_first)) w.rest)
