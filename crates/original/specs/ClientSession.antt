-- A client's session: its handshake and calls one after the other, up to the first fault; as document 000 has it, and as a host has it of the port.
--   Told            what is left of the input, what was sent, and the results: a call's number and values and what its buffer holds afterwards
--   silence, tells  nothing sent and no result; a result and the bytes that were sent for it, before the rest
--   result_of        the result of an answer of 000's client
--   onward          the calls behind an answer: none behind a fault
--   calls, uses     a call and what follows it; a list of calls
--   session         document 000: the handshake and the calls
--   asked, buffer   a call, as the port is asked for it; what is lent while it is open
--   told            the result of an outcome of the port
--   is_open, is_closed   whether an outcome leaves the call open; whether a call was just closed
--   Stepped         an open call: the client is stepped over the input, cut in any way, until nothing more moves
--   closing, ending   what is told of a call that was closed; of one that the end of input or of the session leaves open
--   Hosted          the port, as Hosts has it, from a client whose handshake is closed
--   Hosts           the port: the host makes each call, steps the client over the input, cut as it likes, until nothing more moves, and reports the end of
--                   input where the call is still open
--   Domain          what the oracle domain asks of a session
use Rattle.std.specs.Prelude.{ℕ, ◌≤◌, ◌≡◌, Bool, true, false, List, [], ◌∷◌, ◌++◌, length, None, Some}
use Rattle.machine.specs.Machine.{on}
use Rattle.machine.specs.Stream.{Finished}
use Rattle.wire.specs.Results.{Result}
use Rattle.client.specs.Session.{State, Blank, Shaking, Ready, Calling, Closed, Over, turn}
use Rattle.client.specs.View.{code}
use Rattle.client.specs.Contract.{after, outcome_of, number_of, values_of, end_of_input, fresh}
use Rattle.client.specs.History.{Driven, Ask, to_shake, to_read, to_write, to_trim, to_flush, to_resize, to_seek, answered}
use Rattle.client.specs.declared.state.Client.{Client}
use Rattle.client.specs.declared.state.Outcome.{Outcome}
use Rattle.client.specs.declared.state.Outcome.TheVariants.{Open, Succeeded, Failed, Ended, Refused}
use Rattle.original.specs.Client.{NbdClient, Answer, ok, failed, refused, fault, Done, Call, read, write, flush, trim, resize, seek, made, handshake}

pub record Told : Type 0 where
  pub left : List ℕ
  pub sent : List ℕ
  pub results : List Result

abbrev pub silence : List ℕ → Told
silence input = record { left = input; sent = []; results = [] }

-- a result and the bytes that were sent for it, before the rest
abbrev pub tells : List ℕ → Result → Told → Told
tells sent r t = record { left = t.left; sent = sent ++ t.sent; results = r ∷ t.results }

-- ---- document 000
abbrev pub result_of : Answer → List ℕ → Result
result_of (ok values c) buffer = record { number = None; values = values; buffer = buffer }
result_of (failed error c) buffer = record { number = Some 47; values = error ∷ []; buffer = buffer }
result_of (refused n c) buffer = record { number = Some n; values = []; buffer = buffer }
result_of (fault n) buffer = record { number = Some n; values = []; buffer = buffer }

-- after a call: the next ones, with the client as it stands; none after a fault
abbrev pub onward : Answer → List ℕ → (NbdClient → List ℕ → Told) → Told
onward (ok values c) left more = more c left
onward (failed error c) left more = more c left
onward (refused n c) left more = more c left
onward (fault n) left more = silence left

abbrev pub calls : Done → (NbdClient → List ℕ → Told) → Told
calls d more = tells d.sent (result_of d.answer d.buffer) (onward d.answer d.left more)

unfoldable pub uses : NbdClient → List Call → List ℕ → Told
uses c [] input = silence input
uses c (k ∷ ks) input = calls (made c k input) (λ c left. uses c ks left)

abbrev pub session : List ℕ → List Call → List ℕ → Told
session name ks input = calls (handshake name input) (λ c left. uses c ks left)

-- ---- the port
abbrev pub asked : Call → Ask
asked (read buf) = to_read (length buf)
asked (write buf) = to_write (length buf)
asked flush = to_flush
asked (trim len) = to_trim len
asked (resize size) = to_resize size
asked (seek f) = to_seek f

-- what is lent while the call is open
abbrev pub buffer : Call → List ℕ
buffer (read buf) = buf
buffer (write buf) = buf
buffer flush = []
buffer (trim len) = []
buffer (resize size) = []
buffer (seek f) = []

abbrev pub told : Outcome → List ℕ → Result
told o buffer = record { number = number_of o; values = values_of o; buffer = buffer }

abbrev pub is_open : Outcome → Bool
is_open Open = true
is_open (Succeeded v) = false
is_open (Failed error) = false
is_open (Ended n) = false
is_open (Refused n) = false

-- whether a call was just closed
abbrev pub is_closed : State → Bool
is_closed Blank = false
is_closed (Shaking n p) = false
is_closed (Ready d) = false
is_closed (Calling d c p) = false
is_closed (Closed o d) = true
is_closed (Over n) = false

-- an open call or handshake, with m lent: the client is stepped over the input, cut in any way, until nothing more moves
pub record Stepped (s : Client) (m input given : List ℕ) (x : State) (m' rest : List ℕ) : Type 0 where
  pub driven : Driven s m input given x m' rest
  pub finished : Finished (turn (on x m')) rest

-- how it was closed; or that it is still open at the end of the input, or that the session is over
abbrev pub closing : List ℕ → State → List ℕ → Told → Told
closing given x m t = tells given (told (outcome_of x) m) t

abbrev pub ending : List ℕ → State → List ℕ → List ℕ → Told
ending given x m rest = tells given (told (end_of_input (code (after x))).outcome m) (silence rest)

-- from the client s, with the calls ks to make
pub data Hosted : Client → List Call → List ℕ → Told → Type 0 where
  no_more : {s : Client} {input : List ℕ} → Hosted s [] input (silence input)
  at_once : {s : Client} {k : Call} {ks : List Call} {input : List ℕ} {t : Told} → is_open (answered (asked k) s).outcome ≡ false
      → Hosted (answered (asked k) s).state ks input t → Hosted s (k ∷ ks) input (tells [] (told (answered (asked k) s).outcome (buffer k)) t)
  closes : {s : Client} {k : Call} {ks : List Call} {input given m rest : List ℕ} {x : State} {t : Told} → is_open (answered (asked k) s).outcome ≡ true
      → Stepped (answered (asked k) s).state (buffer k) input given x m rest → is_closed x ≡ true → Hosted (code (after x)) ks rest t
      → Hosted s (k ∷ ks) input (closing given x m t)
  ends : {s : Client} {k : Call} {ks : List Call} {input given m rest : List ℕ} {x : State} → is_open (answered (asked k) s).outcome ≡ true
      → Stepped (answered (asked k) s).state (buffer k) input given x m rest → is_closed x ≡ false → Hosted s (k ∷ ks) input (ending given x m rest)

-- from a fresh client: the handshake, then the calls
pub data Hosts : List ℕ → List Call → List ℕ → Told → Type 0 where
  opens : {name input given m rest : List ℕ} {ks : List Call} {x : State} {t : Told} → Stepped (answered (to_shake (length name)) fresh).state name input given x m rest
      → is_closed x ≡ true → Hosted (code (after x)) ks rest t → Hosts name ks input (closing given x m t)
  breaks_off : {name input given m rest : List ℕ} {ks : List Call} {x : State} → Stepped (answered (to_shake (length name)) fresh).state name input given x m rest
      → is_closed x ≡ false → Hosts name ks input (ending given x m rest)

-- ---- the oracle domain: "all server bytes up to and including the first fault 45, 46 or 50, where 50 comes inside the handshake or a call with no output
-- owed; names up to 4,096 bytes". After a fault `session` makes no call; `Hosts` reports the end of input only where nothing more moves, so that nothing is
-- owed; what is left to ask for is the name's length.
abbrev pub Domain : List ℕ → Type 0
Domain name = length name ≤ 4096
