-- A machine that follows another makes the moves that the other makes.
--   follows_moves   moves
--   follows_goes    pieces of a session
--   follows_turns   pieces that move nothing only where nothing can move, if it rests where the other does
use Prim.Native.Nat.{ℕ}
use mathlib.Core.Path.{◌≡◌, refl, sym, ap, ◌∙◌}
use mathlib.Core.List.{List}
use native.Mathlib.Omega.{arith}
use Rattle.machine.specs.Machine.{Turn, gives, takes, rests, wants, owes, Moves, still, by_give, by_take, Stopped}
use Rattle.machine.specs.Pieces.{Goes, Turns}
use Rattle.machine.specs.Follows.{through, Follows}
use Rattle.machine.proofs.Moves.{unmoved}

module _ {X Y : Type 0} (f : X → Y) where
  through_wants : (t : Turn X) → wants (through f t) ≡ wants t
  through_wants (gives b x) = refl
  through_wants (takes k) = refl
  through_wants rests = refl

  through_owes : (t : Turn X) → owes (through f t) ≡ owes t
  through_owes (gives b x) = refl
  through_owes (takes k) = refl
  through_owes rests = refl

  through_stopped : {t : Turn X} {input room : ℕ} → Stopped t input room → Stopped (through f t) input room
  through_stopped {t} s = record { no_input = λ w. s.no_input (sym (through_wants t) ∙ w); no_room = λ w. s.no_room (sym (through_owes t) ∙ w) }

-- the two do the same, also where both rest
same_turn : {X Y : Type 0} (turn : X → Turn X) (turn' : Y → Turn Y) (f : X → Y) → Follows turn turn' f → (x : X) (t : Turn X)
    → (turn x ≡ rests → turn' (f x) ≡ rests) → turn x ≡ t → turn' (f x) ≡ through f t
same_turn turn turn' f each x (gives b y) h e = each x (λ r. let z : ◌≡◌ {A = ℕ} 0 1 = cc in omega arith) ∙ ap (through f) e
same_turn turn turn' f each x (takes k) h e = each x (λ r. let z : ◌≡◌ {A = ℕ} 0 1 = cc in omega arith) ∙ ap (through f) e
same_turn turn turn' f each x rests h e = h e

module _ {X Y : Type 0} {turn : X → Turn X} {turn' : Y → Turn Y} (f : X → Y) (each : Follows turn turn' f) where
  pub follows_moves : {x y : X} {is os : List ℕ} → Moves turn x is os y → Moves turn' (f x) is os (f y)
  follows_moves still = still
  follows_moves (by_give {x = x} e p) =
      by_give (each x (λ r. let z : ◌≡◌ {A = ℕ} 0 1 = cc in omega arith) ∙ ap (through f) e) (follows_moves p)
  follows_moves (by_take {x = x} e p) =
      by_take (each x (λ r. let z : ◌≡◌ {A = ℕ} 0 1 = cc in omega arith) ∙ ap (through f) e) (follows_moves p)

  pub follows_goes : {x y : X} {input room room' : List ℕ} {taken given : ℕ} → Goes turn x input room taken given y room'
      → Goes turn' (f x) input room taken given (f y) room'
  follows_goes g = record { moves = follows_moves g.moves; within_input = g.within_input; within_room = g.within_room; rest = g.rest; whole = g.whole }

  pub follows_turns : {x y : X} {input room room' : List ℕ} {taken given : ℕ} → (turn x ≡ rests → turn' (f x) ≡ rests)
      → Turns turn x input room taken given y room' → Turns turn' (f x) input room taken given (f y) room'
  follows_turns {x} {y} {taken = taken} {given = given} h t = record {
    goes = follows_goes t.goes;
    stops =
        λ e.
        let a : taken ≡ 0 = omega arith in
        let b : given ≡ 0 = omega arith in
        let s : x ≡ y = unmoved (rw (a, b) at t.goes.moves) in
        rw (same_turn turn turn' f each y (turn y) (rw s at h) refl) (through_stopped f (t.stops e));
  }
