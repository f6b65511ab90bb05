-- For contracts of functions that no host calls: a reader of the rules can leave it out.
--   Some most left      left is 1 to most
--   Part d n            there are some bytes from the position on, and none past the size
--   GoodShaking, GoodCall, GoodProgress   a phase of the handshake, a call and how far it is, within their ranges
--   Absorbed, Emitted   the pieces of machine/specs/Pieces, as the parts of a step answer them
--   Good k x, Fine      a state that a step accepts or that was just closed, with k bytes lent
use Rattle.std.specs.Prelude.{ℕ, ◌+◌, ◌≤◌, ◌<◌, ◌≡◌, true, List, length}
use Rattle.machine.specs.Machine.{On, on}
use Rattle.machine.specs.Pieces.{Absorbs, Emits}
use Rattle.client.specs.Calls.{payload, wanted}
use Rattle.client.specs.Session.{Handshake, Magic, Style, Newstyle, Hello, Naming, SizeAndFlags, Filler, Progress, Asking, Paying, Hearing, Filling}
use Rattle.client.specs.Session.{State, Blank, Shaking, Ready, Calling, Closed, Over, size_and_flags_length, turn}
use Rattle.client.specs.View.{view}
use Rattle.client.specs.Ranges.{ends, lent_to}
use Rattle.client.specs.declared.state.Device.{Device}
use Rattle.client.specs.declared.state.Call.{Call}
use Rattle.client.specs.declared.state.Call.TheVariants.{Read, Write, Flush, Trim, Resize}
use Rattle.client.specs.declared.state.Client.{Client}
use Rattle.machine.specs.declared.ends.Took.{Took}
use Rattle.machine.specs.declared.ends.Gave.{Gave}

abbrev pub Some : ℕ → ℕ → Type 0
Some most left = (0 < left) × (left ≤ most)

abbrev pub GoodShaking : ℕ → Handshake → Type 0
GoodShaking n (Magic got) = length got < 8
GoodShaking n (Style got) = length got < 8
GoodShaking n (Newstyle left) = Some 2 left
GoodShaking n (Hello left) = Some 20 left
GoodShaking n (Naming left) = Some n left
GoodShaking n (SizeAndFlags old got) = length got < size_and_flags_length old
GoodShaking n (Filler size flags clean left) = Some 124 left

abbrev pub Part : Device → ℕ → Type 0
Part d n = (0 < n) × (d.position + n ≤ d.size)

abbrev pub GoodCall : Device → Call → Type 0
GoodCall d (Read n len) = (n ≤ len) × Part d n
GoodCall d (Write n len) = (n ≤ len) × Part d n
GoodCall d Flush = Unit {0}
GoodCall d (Trim n) = Part d n
GoodCall d (Resize size) = Unit {0}

abbrev pub GoodProgress : Call → Progress → Type 0
GoodProgress c (Asking left) = Some 28 left
GoodProgress c (Paying left) = Some (payload c) left
GoodProgress c (Hearing got) = length got < 16
GoodProgress c (Filling left) = Some (wanted c) left

abbrev pub Good : ℕ → State → Type 0
Good k Blank = Unit {0}
Good k (Shaking n p) = (n ≡ k) × (n ≤ 4096) × GoodShaking n p
Good k (Ready d) = Unit {0}
Good k (Calling d c p) = (lent_to c ≡ k) × GoodCall d c × GoodProgress c p
Good k (Closed o d) = Unit {0}
Good k (Over n) = ends n ≡ true

abbrev pub Fine : On State → Type 0
Fine (on x m) = Good (length m) x

-- ---- the parts of a step: the state, what is lent before, the answer, and what is lent after
abbrev pub Absorbed : State → List ℕ → List ℕ → Took Client → List ℕ → Type 0
Absorbed x m input r m' = Absorbs turn (on x m) input r.taken (on (view r.state) m')

abbrev pub Emitted : State → List ℕ → List ℕ → Gave Client → List ℕ → Type 0
Emitted x m room r room' = Emits turn (on x m) room r.given (on (view r.state) m) room'
