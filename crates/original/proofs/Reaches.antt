-- A machine with a lent store does over an input what a reading of the input says.
--   Reaches        from x: bytes are taken up to what is left, those are sent, the store is that, nothing more can be done, and so it is answered
--   reaches_then   after moves
--   reaches_rest   moves to a place that rests
--   reaches_cut    all of the input is taken, and a byte more is wanted
--   Agrees, one_end   so does any session over the input that has finished, however it is cut
--   step_ends      and one step on the whole input finishes, if its room has space for what is sent
use Prim.Native.Nat.{ℕ, ◌-◌, ◌≤◌}
use mathlib.Core.Path.{◌≡◌, refl, sym, ap, subst, ◌∙◌}
use mathlib.Core.List.{List, [], ◌++◌, append_assoc, append-nil}
use native.Mathlib.Omega.{arith}
use lib.ListN.{length, drop, length-drop, take-append-drop}
use Rattle.machine.specs.Machine.{On, on, Turn, takes, rests, Moves, Stopped}
use Rattle.machine.specs.Run.{Ran}
use Rattle.machine.specs.Pieces.{Steps}
use Rattle.machine.specs.Stream.{Session, Finished}
use Rattle.machine.proofs.Moves.{then}
use Rattle.machine.proofs.Runs.{one_stop, given_length}
use Rattle.machine.proofs.Cutting.{session_moves, finished_stopped}

pub record Reaches {S A : Type 0} (turn : On S → Turn (On S)) (answer : S → A) (x : On S) (input left sent store : List ℕ) (a : A) : Type 0 where
  pub taken : List ℕ
  pub state : S
  pub all_in : input ≡ taken ++ left
  pub moves : Moves turn x taken sent (on state store)
  pub finished : Finished (turn (on state store)) left
  pub answers : answer state ≡ a

pub record Agrees {S A : Type 0} (answer : S → A) (left sent store : List ℕ) (a : A) (given : List ℕ) (y : S) (m rest : List ℕ) : Type 0 where
  pub same_left : rest ≡ left
  pub same_sent : given ≡ sent
  pub same_store : m ≡ store
  pub same_answer : answer y ≡ a

module _ {S A : Type 0} {turn : On S → Turn (On S)} {answer : S → A} where
  pub reaches_then : {is os input rest left sent store : List ℕ} {x y : On S} {a : A} → Moves turn x is os y → input ≡ is ++ rest
      → Reaches turn answer y rest left sent store a → Reaches turn answer x input left (os ++ sent) store a
  reaches_then {is = is} {left = left} p e f = record {
    taken = is ++ f.taken;
    state = f.state;
    all_in = e ∙ ap (λ (l : List ℕ). is ++ l) f.all_in ∙ sym (append_assoc is f.taken left);
    moves = then p f.moves;
    finished = f.finished;
    answers = f.answers;
  }

  pub reaches_rest : {is os input left m : List ℕ} {x : On S} (y : S) → turn (on y m) ≡ rests → Moves turn x is os (on y m) → input ≡ is ++ left
      → Reaches turn answer x input left os m (answer y)
  reaches_rest {is = is} y r p e = record {
    taken = is;
    state = y;
    all_in = e;
    moves = p;
    finished = record { none_left = λ w. absurd (let z : ◌≡◌ {A = ℕ} 0 1 = cc in omega arith); none_owed = rw r };
    answers = refl;
  }

  pub reaches_cut : {input m : List ℕ} {x : On S} {a : A} (y : S) {k : ℕ → On S} → Moves turn x input [] (on y m) → turn (on y m) ≡ takes k → answer y ≡ a
      → Reaches turn answer x input [] [] m a
  reaches_cut {input = input} y p e n = record {
    taken = input;
    state = y;
    all_in = sym (append-nil input);
    moves = p;
    finished = record { none_left = λ w. refl; none_owed = rw e };
    answers = n;
  }

  pub one_end : {input left sent store given m rest : List ℕ} {x : On S} {y : S} {a : A} → Reaches turn answer x input left sent store a → Session turn x input given (on y m) rest
      → Finished (turn (on y m)) rest → Agrees answer left sent store a given y m rest
  one_end {sent = sent} {store = store} {given = given} {m = m} {y = y} r s f =
      let b = session_moves s in
      let i = one_stop b.2 (finished_stopped (length sent) f) r.moves (finished_stopped (length given) r.finished) (sym b.1 ∙ r.all_in) (omega arith) in
      let p : on y m ≡ on r.state store = ap (λ (z : Ran (On S)). z.stands) i in
      let q : y ≡ r.state = cc in
      record {
        same_left = ap (λ (z : Ran (On S)). z.rest) i;
        same_sent = ap (λ (z : Ran (On S)). z.given) i;
        same_store = cc;
        same_answer = rw q r.answers;
      }

  pub step_ends : {input left sent store room m room' : List ℕ} {x : On S} {y : S} {a : A} {taken given : ℕ} → Reaches turn answer x input left sent store a
      → Steps turn x input room taken given (on y m) room' → length sent ≤ length room → Finished (turn (on y m)) (drop taken input)
  step_ends {input} {left} {sent} {store} {room} {m} {room'} {x} {y} {a} {taken} {given} r s h =
      let g = s.goes in
      let there : Stopped (turn (on y m)) (length (drop taken input)) (length room - given) = rw (length-drop taken input) s.stops in
      let i = one_stop g.moves there r.moves (finished_stopped (length room - length sent) r.finished) (take-append-drop taken input ∙ r.all_in)
      (omega (arith, given_length g, g.within_room)) in
      let place : on y m ≡ on r.state store = ap (λ (z : Ran (On S)). z.stands) i in
      let behind : drop taken input ≡ left = ap (λ (z : Ran (On S)). z.rest) i in
      subst (λ (z : On S). Finished (turn z) (drop taken input)) (sym place) (rw behind r.finished)
