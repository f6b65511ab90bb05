-- For contracts of functions that no host calls: a reader of the rules can leave it out.
--   option_until, request_until   how many bytes of an option, of a request there are when the next is judged
--   reply_of p      the reply of the handshake that is owed, as it stands before the first of its bytes is given
--   left_of p       how many of its bytes are owed still
--   with_left p n   the state where so many are
--   Owes           what the code computes of them: the reply in front of an array
--   Good t n x     a state that a step accepts, with the table t and an image of n bytes
--   Absorbed, Emitted   the pieces of machine/specs/Pieces, as the parts of a step answer them
--   Stored, Sent   payload into the window, and bytes of the window into the room
use Rattle.std.specs.Prelude.{ℕ, min, ◌+◌, ◌-◌, ◌≡◌, true, List, [], ltb, length, take, drop}
use Rattle.std.proofs.Math.Seq.{paste}
use Rattle.machine.specs.Choice.{pick}
use Rattle.machine.specs.Machine.{on}
use Rattle.machine.specs.Pieces.{Absorbs, Emits}
use Rattle.wire.specs.Layouts.{greeting}
use Rattle.wire.specs.declared.table.Export.{Export}
use Rattle.server.specs.Session.{Handshake, Greeting, ClientFlags, OptionHead, Naming, Passing, Listing, Declining, Aborting, Exporting}
use Rattle.server.specs.Session.{State, Shaking, list_replies, declined, aborted, exported, greeted, listing, declining, aborting, exporting, storing, sending, turn}
use Rattle.server.specs.View.{view}
use Rattle.server.specs.Ranges.{ranged, loan_fault}
use Rattle.server.specs.declared.state.Server.{Server}
use Rattle.machine.specs.declared.ends.Took.{Took}
use Rattle.machine.specs.declared.ends.Gave.{Gave}

-- a state that a step accepts
pub record Good (t : List ℕ) (n : ℕ) (x : State) : Type 0 where
  pub within : ranged x ≡ true
  pub fits : loan_fault t n x ≡ 0

-- ---- the parts of a step: the table, the state, the image and what else is lent before, the answer, and what is lent after
abbrev pub Absorbed : List ℕ → State → List ℕ → List ℕ → Took Server → List ℕ → Type 0
Absorbed t x m input r m' = Absorbs (turn t) (on x m) input r.taken (on (view r.state) m')

abbrev pub Emitted : List ℕ → State → List ℕ → List ℕ → Gave Server → List ℕ → Type 0
Emitted t x m room r room' = Emits (turn t) (on x m) room r.given (on (view r.state) m) room'

-- ---- headers
abbrev pub option_until : ℕ → ℕ
option_until have = pick (ltb have 8) 8 16

abbrev pub request_until : ℕ → ℕ
request_until have = pick (ltb have 4) 4 28

-- ---- replies of the handshake
abbrev pub reply_of : Handshake → List ℕ
reply_of (Greeting left) = greeting
reply_of (ClientFlags got) = []
reply_of (OptionHead z got) = []
reply_of (Naming z fits text at left) = []
reply_of (Passing z option len left) = []
reply_of (Listing z left) = list_replies
reply_of (Declining z option left) = declined option
reply_of (Aborting left) = aborted
reply_of (Exporting z e left) = exported z e

abbrev pub left_of : Handshake → ℕ
left_of (Greeting left) = left
left_of (ClientFlags got) = 0
left_of (OptionHead z got) = 0
left_of (Naming z fits text at left) = 0
left_of (Passing z option len left) = 0
left_of (Listing z left) = left
left_of (Declining z option left) = left
left_of (Aborting left) = left
left_of (Exporting z e left) = left

abbrev pub with_left : Handshake → ℕ → State
with_left (Greeting _) left = greeted left
with_left (ClientFlags got) left = Shaking (ClientFlags got)
with_left (OptionHead z got) left = Shaking (OptionHead z got)
with_left (Naming z fits text at n) left = Shaking (Naming z fits text at n)
with_left (Passing z option len n) left = Shaking (Passing z option len n)
with_left (Listing z _) left = listing z left
with_left (Declining z option _) left = declining z option left
with_left (Aborting _) left = aborting left
with_left (Exporting z e _) left = exporting z e left

-- the first `len` bytes are the reply, of which so many are left
pub record Owes (reply : List ℕ) (owed : ℕ) (bytes : List ℕ) (len left : ℕ) : Type 0 where
  pub all : len ≡ length reply
  pub front : take len bytes ≡ reply
  pub still : left ≡ owed

-- ---- the window
-- payload, as much as there is, into the window
pub record Stored (e : Export) (handle off left : ℕ) (input window : List ℕ) (taken : ℕ) (x : State) (window' : List ℕ) : Type 0 where
  pub least : taken ≡ min left (length input)
  pub stands : x ≡ storing e handle (off + taken) (left - taken)
  pub written : window' ≡ paste window off input taken

-- bytes of the window, as many as the room has space for
pub record Sent (e : Export) (off left : ℕ) (window room : List ℕ) (given : ℕ) (x : State) (room' : List ℕ) : Type 0 where
  pub least : given ≡ min left (length room)
  pub stands : x ≡ sending e (off + given) (left - given)
  pub written : room' ≡ paste room 0 (drop off window) given
