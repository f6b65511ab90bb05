-- What the laws of whole exchanges speak of.
--   Unsupported, UnknownOption, UnknownType   options that are declined; options and request types that the server does not know
--   asked    a request by its fields
--   Fits     numbers that the fields of a request can hold
--   Exactly  what a step answers that takes all of its input and gives these bytes
--   Apart    two images are as long, and have the same bytes before an export's window and behind it
--   Has      the session has chosen the export: the reply that says so is owed, or the export is served
--   Only     an image changed in the export's window only, and the session has that export still or is over
--   Via      moves that pass a place: the bytes up to there, and those from there on
--   Chose    on its way the session chose an export of the table, and wrote in that export's window only
--   Untouched   "no other image byte is ever written": what is left of the image, by the export that the session had
use Rattle.std.specs.Prelude.{ℕ, ◌+◌, ◌^◌, ◌<◌, ◌≡◌, ◌⊎◌, Bool, List, ◌++◌, length, take, drop, Some}
use Rattle.machine.specs.Machine.{Turn, on, Moves}
use Rattle.wire.specs.Constants.{NBD_OPT_INFO, NBD_OPT_GO, NBD_OPT_STRUCTURED_REPLY, NBD_OPT_EXTENDED_HEADERS}
use Rattle.wire.specs.Table.{records}
use Rattle.wire.specs.declared.table.Export.{Export}
use Rattle.server.specs.Session.{Exporting, Transmission, State, Shaking, Serving, Over, export_at, found, turn}
use Rattle.server.specs.View.{code}
use Rattle.server.specs.Contract.{outcome_of}
use Rattle.server.specs.declared.request.Request.{Request}
use Rattle.server.specs.Answers.{Stepped}

abbrev pub Unsupported : ℕ → Type 0
Unsupported option = (option ≡ NBD_OPT_INFO) ⊎ (option ≡ NBD_OPT_GO) ⊎ (option ≡ NBD_OPT_STRUCTURED_REPLY) ⊎ (option ≡ NBD_OPT_EXTENDED_HEADERS)

-- all but 1, 2, 3, 5, 6, 7, 8 and 11
abbrev pub UnknownOption : ℕ → Type 0
UnknownOption option = (option ≡ 0) ⊎ (option ≡ 4) ⊎ (option ≡ 9) ⊎ (option ≡ 10) ⊎ (11 < option)

-- all but 0 to 4 and 6
abbrev pub UnknownType : ℕ → Type 0
UnknownType type = (type ≡ 5) ⊎ (6 < type)

abbrev pub asked : ℕ → ℕ → ℕ → ℕ → Request
asked type handle offset len = record { typ = type; handle = handle; offset = offset; len = len }

pub record Fits (type handle offset len : ℕ) : Type 0 where
  pub type_fits : type < 2 ^ 16
  pub handle_fits : handle < 2 ^ 64
  pub offset_fits : offset < 2 ^ 64
  pub len_fits : len < 2 ^ 32

-- all of the input, these bytes at the front of the room, and the session at y with the image m
pub record Exactly (input room given : List ℕ) (y : State) (m : List ℕ) (r : Stepped) (m' room' : List ℕ) : Type 0 where
  pub result : r ≡ record { state = code y; taken = length input; given = length given; outcome = outcome_of y }
  pub same_image : m' ≡ m
  pub written : room' ≡ given ++ drop (length given) room

pub record Apart (e : Export) (m m' : List ℕ) : Type 0 where
  pub as_long : length m' ≡ length m
  pub before : take e.start m' ≡ take e.start m
  pub behind : drop (e.start + e.size) m' ≡ drop (e.start + e.size) m

pub data Has : State → Export → Type 0 where
  announced : {z : Bool} {e : Export} {left : ℕ} → Has (Shaking (Exporting z e left)) e
  served : {e : Export} {p : Transmission} → Has (Serving e p) e

pub record Only (e : Export) (m : List ℕ) (y : State) (m' : List ℕ) : Type 0 where
  pub apart : Apart e m m'
  pub stays : Has y e ⊎ ((n : ℕ) × (y ≡ Over n))

pub data Via {X : Type 0} (turn : X → Turn X) (x place y : X) : List ℕ → List ℕ → Type 0 where
  via : {is os js ps : List ℕ} → Moves turn x is os place → Moves turn place js ps y → Via turn x place y (is ++ js) (os ++ ps)

-- ---- With the table t lent, a session takes the bytes `is` and gives `os`, from x and the image m to y and the image m'.

-- it found a name in a record of t, while the image was m still
pub record Chose (t m : List ℕ) (x : State) (is os : List ℕ) (y : State) (m' : List ℕ) : Type 0 where
  pub number : ℕ
  pub listed : number < length (records t)
  pub zeroes : Bool
  pub way : Via (turn t) (on x m) (on (found zeroes t (Some number)) m) (on y m') is os
  pub only : Only (export_at t number) m y m'

pub record Untouched (t m : List ℕ) (x : State) (is os : List ℕ) (y : State) (m' : List ℕ) : Type 0 where
  pub had : {e : Export} → Has x e → Only e m y m'
  pub had_none : ((e : Export) → Has x e → ⊥) → (m' ≡ m) ⊎ Chose t m x is os y m'
  pub ended : {n : ℕ} → x ≡ Over n → m' ≡ m
