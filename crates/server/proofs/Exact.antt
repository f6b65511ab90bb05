-- A step of the code on a whole exchange does exactly that exchange. So what Options.antt and Requests.antt say of the machine holds of `step`.
--   step_exact   all of the input is taken, these bytes are given and no other byte of the room changes, and the state, the image and the outcome
--                are those that the exchange leads to
use Prim.Native.Nat.{ℕ, ◌-◌, ◌≤◌}
use mathlib.Core.Path.{◌≡◌, refl, sym, ap, ◌∙◌}
use mathlib.Core.Bool.{false}
use mathlib.Core.List.{List, [], ◌++◌, append-nil}
use native.Mathlib.Omega.{arith}
use lib.ListN.{length, take, drop, length-drop, take-append-drop}
use Rattle.machine.specs.Machine.{On, on, owes, Moves, Stopped}
use Rattle.machine.specs.Run.{Ran}
use Rattle.machine.proofs.Runs.{one_stop, given_length}
use Rattle.server.specs.Session.{State, turn}
use Rattle.server.specs.View.{view, code}
use Rattle.server.specs.Ranges.{refusal}
use Rattle.server.specs.Contract.{outcome_of, Serves}
use Rattle.server.specs.Exchanges.{Exactly}
use Rattle.server.specs.declared.state.Server.{Server}
use Rattle.server.specs.Answers.{Stepped}
use Rattle.server.proofs.Result.{stepped_same}

pub step_exact : {self : Server} {t m input room : List ℕ} {r : Stepped} {m' room' given m₁ : List ℕ} {y : State} → Serves self t m input room r m' room'
    → refusal t (length m) self ≡ 0 → Moves (turn t) (on (view self) m) input given (on y m₁) → owes (turn t (on y m₁)) ≡ false → length given ≤ length room
    → Exactly input room given y m₁ r m' room'
step_exact {self} {t} {m} {input} {room} {r} {m'} {room'} {given} {m₁} {y} s e p rests fits =
    let a = s.accepts e in
    let g = a.steps.goes in
    let here : Stopped (turn t (on y m₁)) 0 (length room - length given) = record {
      no_input = λ _. refl;
      no_room = λ w. absurd (let z : ◌≡◌ {A = ℕ} 0 1 = cc in omega arith);
    } in
    let there : Stopped (turn t (on (view r.state) m')) (length (drop r.taken input)) (length room - r.given) =
    rw (length-drop r.taken input) a.steps.stops in
    let l = given_length g in
    let i : input ++ [] ≡ take r.taken input ++ drop r.taken input = append-nil input ∙ sym (take-append-drop r.taken input) in
    let one = one_stop p here g.moves there i (omega (arith, g.within_room)) in
    let o : given ≡ take r.given room' = ap (λ (x : Ran (On State)). x.given) one in
    let q : on y m₁ ≡ on (view r.state) m' = ap (λ (x : Ran (On State)). x.stands) one in
    let d : [] ≡ drop r.taken input = ap (λ (x : Ran (On State)). x.rest) one in
    let v : view r.state ≡ y = cc in
    let k : r.taken ≡ length input = omega (arith, ap length d, length-drop r.taken input, g.within_input) in
    let n : r.given ≡ length given = sym l ∙ ap length (sym o) in
    let c : r.state ≡ code y = a.one_struct ∙ ap code v in
    let w : r.outcome ≡ outcome_of y = a.outcome ∙ ap outcome_of v in
    record {
      result = stepped_same c k n w;
      same_image = cc;
      written = sym (take-append-drop r.given room') ∙ rw (← o, g.rest, n);
    }
