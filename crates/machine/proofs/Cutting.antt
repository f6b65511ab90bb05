-- The way in which a stream of bytes is cut into pieces cannot be seen.
--   one_way         of two runs of moves over one stream, one goes on where the other stands
--   one_place       the same bytes lead to the same place
--   session_moves   a session is moves over a first part of its stream
--   session_then    one session after another
--   session_way     of two sessions over one stream, one goes on where the other stands
--   finished_stopped   a session that has finished has stopped, whatever room there is
--   cutting_room    two sessions over one stream that stop with as much room in all: the same place, bytes given and bytes left
--   cutting         two finished sessions over one stream: the same, whatever the rooms
--   session_runs    a finished session is the fuelled run, with enough fuel and room
--   one_piece       a piece on the whole stream is a session
--   step_finished   a step on the whole stream is finished if it leaves room
use Prim.Native.Nat.{ℕ, ◌+◌, ◌-◌, ◌≤◌, ◌<◌}
use mathlib.Core.Path.{◌≡◌, refl, sym, ap, ◌∙◌}
use mathlib.Core.Logic.{◌⊎◌, inl, inr}
use mathlib.Core.Bool.{Bool, true, false}
use mathlib.Core.List.{List, [], ◌∷◌, ◌++◌, append_assoc, append-nil}
use native.Mathlib.Omega.{arith}
use lib.ListN.{length, take, drop, length-append, take-append-drop, drop_of_length-le}
use lib.Seq.{take-length}
use Rattle.machine.specs.Machine.{Turn, owes, Moves, still, by_give, by_take, Stopped}
use Rattle.machine.specs.Run.{reached, run_for}
use Rattle.machine.specs.Pieces.{Goes, Steps}
use Rattle.machine.specs.Stream.{Session, over, piece, Further, Finished}
use Rattle.machine.proofs.Lists.{take_within}
use Rattle.machine.proofs.Moves.{then}
use Rattle.machine.proofs.Runs.{runs, one_stop}

pub finished_stopped : {X : Type 0} {t : Turn X} {rest : List ℕ} (r : ℕ) → Finished t rest → Stopped t (length rest) r
finished_stopped r f = record {
  no_input = λ w. ap length (f.none_left w);
  no_room = λ w. absurd (let z : ◌≡◌ {A = ℕ} 0 1 = cc f.none_owed in omega arith);
}

module _ {X : Type 0} {turn : X → Turn X} where
  -- the same byte given before both
  after_give : {os ps rest rest' : List ℕ} {y z : X} (b : ℕ) → Further turn os y rest ps z rest' → Further turn (b ∷ os) y rest (b ∷ ps) z rest'
  after_give b f = record {
    more_in = f.more_in;
    more_out = f.more_out;
    goes_on = f.goes_on;
    all_in = f.all_in;
    all_out = ap (λ (l : List ℕ). b ∷ l) f.all_out;
  }

  pub one_way : {x y z : X} {is os js ps rest rest' : List ℕ} → Moves turn x is os y → Moves turn x js ps z → is ++ rest ≡ js ++ rest'
      → Further turn os y rest ps z rest' ⊎ Further turn ps z rest' os y rest
  one_way still q e = inl record { more_in = _; more_out = _; goes_on = q; all_in = e; all_out = refl }
  one_way (by_give p m) still e = inr record { more_in = _; more_out = _; goes_on = by_give p m; all_in = sym e; all_out = refl }
  one_way (by_take p m) still e = inr record { more_in = _; more_out = _; goes_on = by_take p m; all_in = sym e; all_out = refl }
  one_way (by_give {y = y₁} {b = b} p m) (by_give {y = y₂} {b = c} q n) e =
      let s : y₂ ≡ y₁ = cc in
      let t : c ≡ b = cc in
      rw t (given (one_way m (rw s at n) e))
    where
      given : {os ps rest rest' : List ℕ} {y z : X} → Further turn os y rest ps z rest' ⊎ Further turn ps z rest' os y rest
          → Further turn (b ∷ os) y rest (b ∷ ps) z rest' ⊎ Further turn (b ∷ ps) z rest' (b ∷ os) y rest
      given (inl f) = inl (after_give b f)
      given (inr f) = inr (after_give b f)
  one_way (by_give p m) (by_take q n) e = absurd (let z : ◌≡◌ {A = ℕ} 0 1 = cc in omega arith)
  one_way (by_take p m) (by_give q n) e = absurd (let z : ◌≡◌ {A = ℕ} 0 1 = cc in omega arith)
  one_way {rest = rest} {rest' = rest'} (by_take {k = k₁} {b = b} {is = is} p m) (by_take {k = k₂} {b = c} {is = js} q n) e =
      let s : k₂ c ≡ k₁ b = cc in
      let t : is ++ rest ≡ js ++ rest' = cc in
      one_way m (rw s at n) t

  pub one_place : {x y z : X} {is os : List ℕ} → Moves turn x is os y → Moves turn x is os z → y ≡ z
  one_place still still = refl
  one_place (by_give {y = y₁} p m) (by_give {y = y₂} q n) = let s : y₂ ≡ y₁ = cc in one_place m (rw s at n)
  one_place (by_give p m) (by_take q n) = absurd (let z : ◌≡◌ {A = ℕ} 0 1 = cc in omega arith)
  one_place (by_take p m) (by_give q n) = absurd (let z : ◌≡◌ {A = ℕ} 0 1 = cc in omega arith)
  one_place (by_take {k = k₁} {b = b} p m) (by_take {k = k₂} q n) = let s : k₂ b ≡ k₁ b = cc in one_place m (rw s at n)

  pub session_moves : {x y : X} {stream given rest : List ℕ} → Session turn x stream given y rest
      → (is : List ℕ) × (stream ≡ is ++ rest) × Moves turn x is given y
  session_moves over = ([], refl, still)
  session_moves {rest = rest} (piece {stream = stream} {i = i} n g p) =
      let r = session_moves p in
      let e : stream ≡ (take i stream ++ r.0) ++ rest =
      sym (take-append-drop i stream) ∙ ap (λ (l : List ℕ). take i stream ++ l) r.1 ∙ sym (append_assoc (take i stream) r.0 rest) in
      (take i stream ++ r.0, e, then (rw (take_within i n stream g.within_input) at g.moves) r.2)

  pub session_then : {x y z : X} {stream os ps rest rest' : List ℕ} → Session turn x stream os y rest → Session turn y rest ps z rest'
      → Session turn x stream (os ++ ps) z rest'
  session_then over q = q
  session_then {ps = ps} (piece {room' = room'} {given = given} {o = o} n g p) q = rw (append_assoc (take o room') given ps) (piece n g (session_then p q))

  pub session_way : {x y z : X} {stream os ps rest rest' : List ℕ} → Session turn x stream os y rest → Session turn x stream ps z rest'
      → Further turn os y rest ps z rest' ⊎ Further turn ps z rest' os y rest
  session_way p q =
      let a = session_moves p in
      let b = session_moves q in
      one_way a.2 b.2 (sym a.1 ∙ b.1)

  pub cutting_room : {x y z : X} {stream os ps rest rest' : List ℕ} {r r' : ℕ} → Session turn x stream os y rest → Stopped (turn y) (length rest) r
      → Session turn x stream ps z rest' → Stopped (turn z) (length rest') r' → length os + r ≡ length ps + r'
      → reached y rest os ≡ reached z rest' ps
  cutting_room p s q t e =
      let a = session_moves p in
      let b = session_moves q in
      one_stop a.2 s b.2 t (sym a.1 ∙ b.1) e

  pub cutting : {x y z : X} {stream os ps rest rest' : List ℕ} → Session turn x stream os y rest → Finished (turn y) rest
      → Session turn x stream ps z rest' → Finished (turn z) rest'
      → reached y rest os ≡ reached z rest' ps
  cutting {os = os} {ps = ps} p f q g = cutting_room p (finished_stopped (length ps) f) q (finished_stopped (length os) g) (omega arith)

  pub session_runs : {x y : X} {stream os rest : List ℕ} (k r : ℕ) → Session turn x stream os y rest → Finished (turn y) rest
      → length stream + length os ≤ k → length os ≤ r → run_for turn k x stream r ≡ reached y rest os
  session_runs {os = os} {rest = rest} k r p f h l =
      let a = session_moves p in
      let e : length os + (r - length os) ≡ r = omega arith in
      let m = length-append a.0 rest in
      let n = ap length a.1 in
      rw (← a.1, e) at (runs k rest (r - length os) a.2 (finished_stopped (r - length os) f) (omega arith))

  pub one_piece : {x y : X} {stream room room' : List ℕ} {taken given : ℕ} → Goes turn x stream room taken given y room'
      → Session turn x stream (take given room') y (drop taken stream)
  one_piece {x} {y} {stream} {room} {room'} {taken} {given} g =
      let h : Goes turn x (take (length stream) stream) room taken given y room' = rw (take-length stream) g in
      rw (append-nil (take given room')) at (piece (length stream) h over)

  pub step_finished : {x y : X} {stream room room' : List ℕ} {taken given : ℕ} → Steps turn x stream room taken given y room' → given < length room
      → Finished (turn y) (drop taken stream)
  step_finished {y = y} {stream = stream} {taken = taken} s h = record {
    none_left = λ w. drop_of_length-le stream {i = taken} (omega (arith, s.stops.no_input w));
    none_owed = false_if (owes (turn y)) λ w. omega (arith, s.stops.no_room w);
  }
    where
      false_if : (b : Bool) → (b ≡ true → ⊥) → b ≡ false
      false_if true h = absurd (h refl)
      false_if false h = refl
