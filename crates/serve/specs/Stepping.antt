-- How `serve` steps: it takes and gives apart, so that what was stored is in the file before a reply goes out.
--   offered x n      how many of n bytes a step from x is offered: none behind a request's header, nor behind a payload that is stored
--   offered_serving   the same in the transmission
--   none             the empty part
--   changed x k      the part of the image that a step from x stored, if it took k bytes
--   changed_at, changed_serving   the same, where k is above 0; and in the transmission
--   LiesIn n p       a part lies in an image of n bytes
--   InWindow x p     it lies in the window of the export that is served, or is empty
--   Parted x m m' p  from m to m' the image changed in the part p only, which lies in it and in the window
--   Takes            a step without room: the library's, and the part that it changed
--   Gives            a step without input: the library's; the image is as it was
use Rattle.std.specs.Prelude.{ℕ, zero, suc, min, ◌+◌, ◌-◌, ◌≤◌, ◌<◌, ◌≡◌, List, [], length, take, drop}
use Rattle.wire.specs.declared.table.Export.{Export}
use Rattle.server.specs.Session.{Transmission, Header, Storing, Dropping, Replying, Sending, State, Shaking, Serving, Over}
use Rattle.server.specs.View.{view}
use Rattle.server.specs.Contract.{Serves}
use Rattle.server.specs.declared.state.Server.{Server}
use Rattle.server.specs.Answers.{Stepped}
use Rattle.serve.specs.declared.stepping.Part.{Part}
use Rattle.serve.specs.declared.stepping.Taken.{Taken}

abbrev pub offered_serving : Transmission → ℕ → ℕ
offered_serving (Header got) n = min (28 - length got) n
offered_serving (Storing handle off left) n = min left n
offered_serving (Dropping error handle left) n = n
offered_serving (Replying error handle left off len) n = n
offered_serving (Sending off left) n = n

abbrev pub offered : State → ℕ → ℕ
offered (Shaking p) n = n
offered (Serving e p) n = offered_serving p n
offered (Over k) n = n

abbrev pub none : Part
none = record { from = 0; len = 0 }

abbrev pub changed_serving : Export → Transmission → ℕ → Part
changed_serving e (Header got) k = none
changed_serving e (Storing handle off left) k = record { from = e.start + off; len = k }
changed_serving e (Dropping error handle left) k = none
changed_serving e (Replying error handle left off len) k = none
changed_serving e (Sending off left) k = none

abbrev pub changed_at : State → ℕ → Part
changed_at (Shaking p) k = none
changed_at (Serving e p) k = changed_serving e p k
changed_at (Over n) k = none

abbrev pub changed : State → ℕ → Part
changed x zero = none
changed x (suc k) = changed_at x (suc k)

abbrev pub LiesIn : ℕ → Part → Type 0
LiesIn n p = p.from + p.len ≤ n

abbrev pub InWindow : State → Part → Type 0
InWindow (Shaking p) part = part.len ≡ 0
InWindow (Serving e p) part = 0 < part.len → (e.start ≤ part.from) × (part.from + part.len ≤ e.start + e.size)
InWindow (Over n) part = part.len ≡ 0

pub record Parted (x : State) (m m' : List ℕ) (p : Part) : Type 0 where
  pub before : take p.from m' ≡ take p.from m
  pub behind : drop (p.from + p.len) m' ≡ drop (p.from + p.len) m
  pub lies : LiesIn (length m) p
  pub in_window : InWindow x p

pub record Takes (s : Server) (t m input : List ℕ) (r : Taken) (m' : List ℕ) : Type 0 where
  pub step : Serves s t m (take (offered (view s) (length input)) input) [] r.step m' []
  pub within_input : r.step.taken ≤ length input
  pub part : r.part ≡ changed (view s) r.step.taken
  pub apart : Parted (view s) m m' r.part

pub record Gives (s : Server) (t m room : List ℕ) (r : Stepped) (m' room' : List ℕ) : Type 0 where
  pub step : Serves s t m [] room r m' room'
  pub within_room : r.given ≤ length room
  pub same_image : m' ≡ m
