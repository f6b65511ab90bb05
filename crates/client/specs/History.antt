-- Calls and steps one after the other, as a host makes them.
--   Ask         a call that moves no byte, with what it is given
--   answered    its answer
--   Reached s   a fresh client, and calls and steps on what the one before handed back, lead to the client s
--   Driven s m stream given x m' rest
--     from the client s, with m lent, over one stream of bytes, cut as the host likes: the bytes given, the place come to, what the lent slice
--     holds, and what is left of the stream. Each step is offered the first n bytes of what is left, whatever n, and any room. The client and
--     the outcome of the last step follow from the place: `code (after x)` and `outcome_of x`.
use Rattle.std.specs.Prelude.{ℕ, ◌≡◌, List, ◌++◌, length, take, drop}
use Rattle.client.specs.Session.{State}
use Rattle.client.specs.Ranges.{refusal}
use Rattle.client.specs.Contract.{fresh, shaken, reading, writing, trimming, flushing, resizing, seeking, end_of_input, after, Drives}
use Rattle.client.specs.declared.state.SeekFrom.{SeekFrom}
use Rattle.client.specs.declared.state.Client.{Client}
use Rattle.client.specs.Answers.{Called, Stepped}

pub data Ask : Type 0 where
  to_shake : ℕ → Ask  -- the name's length
  to_read : ℕ → Ask  -- the buffer's length
  to_write : ℕ → Ask  -- the buffer's length
  to_trim : ℕ → Ask
  to_flush : Ask
  to_resize : ℕ → Ask
  to_seek : SeekFrom → Ask
  to_end : Ask  -- the host reports the end of input

abbrev pub answered : Ask → Client → Called
answered (to_shake n) s = shaken n s
answered (to_read len) s = reading len s
answered (to_write len) s = writing len s
answered (to_trim len) s = trimming len s
answered to_flush s = flushing s
answered (to_resize size) s = resizing size s
answered (to_seek f) s = seeking f s
answered to_end s = end_of_input s

pub data Reached : Client → Type 0 where
  at_first : Reached fresh
  by_call : {s : Client} (a : Ask) → Reached s → Reached (answered a s).state
  by_step : {s : Client} {m input room : List ℕ} {r : Stepped} {m' room' : List ℕ} → Reached s → Drives s m input room r m' room' → Reached r.state

pub data Driven : Client → List ℕ → List ℕ → List ℕ → State → List ℕ → List ℕ → Type 0 where
  -- one step
  once : {s : Client} {m stream room : List ℕ} {r : Stepped} {m' room' : List ℕ} (n : ℕ) (d : Drives s m (take n stream) room r m' room')
      (fine : refusal (length m) s ≡ 0)
      → Driven s m stream (take r.given room') (d.accepts fine).place m' (drop r.taken stream)
  -- a step that closes nothing, and more
  again : {s : Client} {m stream room : List ℕ} {r : Stepped} {m' room' given m'' rest : List ℕ} {x : State} (n : ℕ)
      (d : Drives s m (take n stream) room r m' room') (fine : refusal (length m) s ≡ 0)
      → after (d.accepts fine).place ≡ (d.accepts fine).place → Driven r.state m' (drop r.taken stream) given x m'' rest
      → Driven s m stream (take r.given room' ++ given) x m'' rest
