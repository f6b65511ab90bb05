-- Sessions: pieces on one stream of bytes, cut as the host likes.
--   Session    pieces one after the other, each on a first part of what is left of the stream, with any room
--   Further    one place lies further on the way than another, and moves lead there
--   Finished   nothing is left to be taken or given
use Rattle.std.specs.Prelude.{ℕ, ◌≡◌, true, false, List, [], ◌++◌, take, drop}
use Rattle.machine.specs.Machine.{Turn, Moves, wants, owes}
use Rattle.machine.specs.Pieces.{Goes}

module _ {X : Type 0} (turn : X → Turn X) where
  -- From x over a stream: the bytes given, the place come to, and what is left of the stream. Each piece is offered the first n bytes
  -- of what is left, whatever n, so that what it does not take is offered again, alone or with bytes behind it. A step is such a
  -- piece; so is a step that is refused, which moves nothing.
  pub data Session : X → List ℕ → List ℕ → X → List ℕ → Type 0 where
    over : {x : X} {stream : List ℕ} → Session x stream [] x stream
    piece : {x y z : X} {stream room room' given rest : List ℕ} {i o : ℕ} (n : ℕ) → Goes turn x (take n stream) room i o y room'
        → Session y (drop i stream) given z rest → Session x stream (take o room' ++ given) z rest

  -- From y, where os is given and rest is left, moves lead on to z, where ps is given and rest' is left.
  pub record Further (os : List ℕ) (y : X) (rest : List ℕ) (ps : List ℕ) (z : X) (rest' : List ℕ) : Type 0 where
    pub more_in : List ℕ
    pub more_out : List ℕ
    pub goes_on : Moves turn y more_in more_out z
    pub all_in : rest ≡ more_in ++ rest'
    pub all_out : ps ≡ os ++ more_out

-- Where a byte is wanted the stream has none left, and none is owed.
pub record Finished {X : Type 0} (t : Turn X) (rest : List ℕ) : Type 0 where
  pub none_left : wants t ≡ true → rest ≡ []
  pub none_owed : owes t ≡ false
