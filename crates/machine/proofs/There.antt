-- Every step is there: for any machine, from any place, moves lead as far as the input and the room go.
--   There        what a step comes to
--   step_there   it comes to something
use Prim.Native.Nat.{ℕ, zero, suc, ◌+◌, ◌-◌, ◌≤◌}
use mathlib.Core.Path.{◌≡◌, refl, ap, ◌∙◌}
use mathlib.Core.List.{List, [], ◌∷◌, ◌++◌}
use native.Mathlib.Omega.{arith}
use lib.ListN.{length, take, drop, length-append, length-drop}
use lib.Seq.{take-append_seam, drop-append_seam}
use Rattle.machine.specs.Machine.{Turn, gives, takes, rests, Moves, still, by_give, by_take, Stopped}
use Rattle.machine.specs.Pieces.{Steps}

module _ {X : Type 0} (turn : X → Turn X) where
  -- moves over a first part of the input, to a place where no more are made
  record Far (x : X) (input : List ℕ) (room : ℕ) : Type 0 where
    place : X
    ins : List ℕ
    outs : List ℕ
    rest : List ℕ
    left : ℕ
    moves : Moves turn x ins outs place
    all_in : input ≡ ins ++ rest
    all_out : length outs + left ≡ room
    stops : Stopped (turn place) (length rest) left

  pub record There (x : X) (input room : List ℕ) : Type 0 where
    pub place : X
    pub taken : ℕ
    pub given : ℕ
    pub room' : List ℕ
    pub steps : Steps turn x input room taken given place room'

module _ {X : Type 0} {turn : X → Turn X} where
  stands : {x : X} (input : List ℕ) (room : ℕ) → Stopped (turn x) (length input) room → Far turn x input room
  stands {x} input room s = record { place = x; ins = []; outs = []; rest = input; left = room; moves = still; all_in = refl; all_out = omega arith; stops = s }

  -- one byte, and on
  goes_on : (k : ℕ) {x : X} (t : Turn X) → turn x ≡ t → (input : List ℕ) (room : ℕ) → length input + room ≤ suc k
      → ((y : X) (is : List ℕ) (r : ℕ) → length is + r ≤ k → Far turn y is r) → Far turn x input room
  goes_on k (gives b y) e input zero h more =
      stands input 0 (rw e (record { no_input = λ w. absurd (let z : ◌≡◌ {A = ℕ} 0 1 = cc in omega arith); no_room = λ _. refl }))
  goes_on k (gives b y) e input (suc room) h more =
      let f = more y input room (omega arith) in
      record {
        place = f.place;
        ins = f.ins;
        outs = b ∷ f.outs;
        rest = f.rest;
        left = f.left;
        moves = by_give e f.moves;
        all_in = f.all_in;
        all_out = omega (arith, f.all_out);
        stops = f.stops;
      }
  goes_on k (takes g) e [] room h more =
      stands [] room (rw e (record { no_input = λ _. refl; no_room = λ w. absurd (let z : ◌≡◌ {A = ℕ} 0 1 = cc in omega arith) }))
  goes_on k (takes g) e (b ∷ input) room h more =
      let f = more (g b) input room (omega arith) in
      record {
        place = f.place;
        ins = b ∷ f.ins;
        outs = f.outs;
        rest = f.rest;
        left = f.left;
        moves = by_take e f.moves;
        all_in = ap (λ (l : List ℕ). b ∷ l) f.all_in;
        all_out = f.all_out;
        stops = f.stops;
      }
  goes_on k rests e input room h more =
      stands input room
      (rw e
      (record {
        no_input = λ w. absurd (let z : ◌≡◌ {A = ℕ} 0 1 = cc in omega arith);
        no_room = λ w. absurd (let z : ◌≡◌ {A = ℕ} 0 1 = cc in omega arith);
      }))

  far : (k : ℕ) (x : X) (input : List ℕ) (room : ℕ) → length input + room ≤ k → Far turn x input room
  far zero x input room h = stands input room (record { no_input = λ _. omega arith; no_room = λ _. omega arith })
  far (suc k) x input room h = goes_on k (turn x) refl input room h (far k)

  pub step_there : (x : X) (input room : List ℕ) → There turn x input room
  step_there x input room =
      let f = far (length input + length room) x input (length room) (omega arith) in
      let n : ℕ = length f.outs in
      let i : length input ≡ length f.ins + length f.rest = ap length f.all_in ∙ length-append f.ins f.rest in
      let taken : take (length f.ins) input ≡ f.ins = ap (take (length f.ins)) f.all_in ∙ take-append_seam f.ins f.rest in
      let in_left : length input - length f.ins ≡ length f.rest = omega arith in
      let out-left : length room - n ≡ f.left = omega (arith, f.all_out) in
      record {
        place = f.place;
        taken = length f.ins;
        given = n;
        room' = f.outs ++ drop n room;
        steps = record {
          goes = record {
            moves = rw (taken, take-append_seam f.outs (drop n room)) f.moves;
            within_input = omega arith;
            within_room = omega (arith, f.all_out);
            rest = drop-append_seam f.outs (drop n room);
            whole = omega (arith, length-append f.outs (drop n room), length-drop n room, f.all_out);
          };
          stops = rw (in_left, out-left) f.stops;
        };
      }
