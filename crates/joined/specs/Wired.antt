-- One move on real slices. A wire is an array and a count: on it stand the array's first bytes, as many as the count says, and its capacity is
-- the array's length. A count above that means that the wire is full.
--   taken_off       a wire's array after its first bytes were taken off: those behind them have moved to the front, and no other byte has changed
--   put_on          a wire's array with a room behind its bytes that a step has written to
--   ClientMoves    the client is stepped: what it answers, and every byte of what is lent to it and of the wires
--   ServerMoves    the server likewise
use Rattle.std.specs.Prelude.{ℕ, min, ◌+◌, ◌-◌, ◌≡◌, List, ◌++◌, length, take, drop}
use Rattle.machine.specs.Traffic.{client_bytes, server_bytes}
use Rattle.server.specs.Contract.{Serves}
use Rattle.server.specs.declared.state.Server.{Server}
use Rattle.server.specs.Answers as served
use Rattle.client.specs.Contract.{Drives}
use Rattle.client.specs.declared.state.Client.{Client}
use Rattle.client.specs.Answers as driven
use Rattle.wire.specs.Results.{Result}
use Rattle.joined.specs.Disk.{Call}
use Rattle.joined.specs.Code.{joint, collected, Move}
use Rattle.joined.specs.declared.Moved.{Moved}

abbrev pub taken_off : List ℕ → ℕ → ℕ → List ℕ
taken_off wire count n = drop n (take count wire) ++ drop (min count (length wire) - n) wire

abbrev pub put_on : List ℕ → ℕ → ℕ → List ℕ → List ℕ
put_on wire count room bytes = take count wire ++ bytes ++ drop (count + room) wire

module _ (c : Client) (m up : List ℕ) (ups : ℕ) (down : List ℕ) (downs piece room : ℕ) (r : Moved driven.Stepped) (m' up' down' : List ℕ) where
  pub record ClientMoves : Type 0 where
    pub given : List ℕ
    pub drives : Drives c m (take piece (take downs down)) (take room (drop ups up)) r.step m' given
    pub up_bytes : up' ≡ put_on up ups room given
    pub down_bytes : down' ≡ taken_off down downs r.step.taken
    pub up_count : r.ups ≡ min ups (length up) + r.step.given
    pub down_count : r.downs ≡ min downs (length down) - r.step.taken
    -- whatever else there is, this is a move
    pub moves : (t : List ℕ) (ks : List Call) (rs : List Result) (s : Server) (img : List ℕ)
        → Move t (length up) (length down) (client_bytes (take r.step.taken (take downs down)) (take r.step.given given)) (joint c m ks rs s img (take ups up) (take downs down))
        (joint r.step.state m' ks (collected r.step.outcome m' rs) s img (take r.ups up') (take r.downs down'))

module _ (s : Server) (t img up : List ℕ) (ups : ℕ) (down : List ℕ) (downs piece room : ℕ) (r : Moved served.Stepped) (img' up' down' : List ℕ) where
  pub record ServerMoves : Type 0 where
    pub given : List ℕ
    pub serves : Serves s t img (take piece (take ups up)) (take room (drop downs down)) r.step img' given
    pub up_bytes : up' ≡ taken_off up ups r.step.taken
    pub down_bytes : down' ≡ put_on down downs room given
    pub up_count : r.ups ≡ min ups (length up) - r.step.taken
    pub down_count : r.downs ≡ min downs (length down) + r.step.given
    pub moves : (c : Client) (m : List ℕ) (ks : List Call) (rs : List Result)
        → Move t (length up) (length down) (server_bytes (take r.step.taken (take ups up)) (take r.step.given given)) (joint c m ks rs s img (take ups up) (take downs down))
        (joint c m ks rs r.step.state img' (take r.ups up') (take r.downs down'))
