-- Calls one after the other, as a host makes them.
--   Reached s   a fresh server, and calls of `step` and `end_of_input` on what the call before handed back, lead to the struct s
--   Calls       steps that are not refused, on one stream of bytes and with one table; each on the image that the one before left
use Rattle.std.specs.Prelude.{ℕ, ◌≡◌, List, [], ◌++◌, length, take, drop}
use Rattle.server.specs.Session.{Greeting, Shaking}
use Rattle.server.specs.View.{code}
use Rattle.server.specs.Ranges.{refusal}
use Rattle.server.specs.Contract.{Serves, end_of_input}
use Rattle.server.specs.declared.state.Server.{Server}
use Rattle.server.specs.Answers.{Stepped}

-- whatever tables, images, inputs and rooms are lent, and whether the steps are refused or not
pub data Reached : Server → Type 0 where
  fresh : Reached (code (Shaking (Greeting 18)))
  stepped : {s : Server} {t m input room : List ℕ} {r : Stepped} {m' room' : List ℕ} → Reached s → Serves s t m input room r m' room' → Reached r.state
  closed : {s : Server} → Reached s → Reached (end_of_input s).state

-- From the struct s and the image m over a stream: the bytes given, the struct and the image come to, and what is left of the stream. Each step is
-- offered the first n bytes of what is left, whatever n, and any room.
pub data Calls (t : List ℕ) : Server → List ℕ → List ℕ → List ℕ → Server → List ℕ → List ℕ → Type 0 where
  done : {s : Server} {m stream : List ℕ} → Calls t s m stream [] s m stream
  call : {s z : Server} {m stream room : List ℕ} {r : Stepped} {m' room' given m'' rest : List ℕ} (n : ℕ) → refusal t (length m) s ≡ 0
      → Serves s t m (take n stream) room r m' room' → Calls t r.state m' (drop r.taken stream) given z m'' rest
      → Calls t s m stream (take r.given room' ++ given) z m'' rest
