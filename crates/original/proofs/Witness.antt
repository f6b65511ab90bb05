-- The oracle domain is no smaller than it must be: each exclusion has a session that falls under it alone, over which the machine and document 000 differ.
--   all_differ    the server's four
--   after_fault, while_owed, long_name_lem   the client's three
--   as_measured   what the crate was measured to do outside the domain, the definition says
use Prim.Native.Nat.{ℕ}
use mathlib.Core.Path.{◌≡◌, refl}
use mathlib.Core.Bool.{true, false}
use mathlib.Core.List.{List, [], ◌∷◌, append-nil}
use native.Mathlib.Omega.{arith}
use Rattle.wire.specs.Fields.{be, number, same_bytes}
use Rattle.wire.specs.Layouts as wire
use Rattle.wire.specs.Utf8.{next, lead}
use Rattle.wire.specs.Table.{record_bytes, front, sized, records_in, records, wire_flags}
use Rattle.wire.specs.Lookup.{started}
use Rattle.wire.proofs.BigEndian.{same_bytes_refl}
use Rattle.server.specs.Request.{owed}
use Rattle.machine.specs.Stream.{Finished}
use Rattle.server.specs.Session.{turn, judge_flags, named, payload, judge_option, requested}
use Rattle.original.specs.Consts.{NBD_CMD_FLUSH}
use Rattle.original.specs.Leaves.{has, export_flags, octets, greeting, export_reply, replyt, export_name, sendrequest}
use Rattle.original.specs.Connection.{sudden_eof}
use Rattle.original.specs.Client as client
use Rattle.original.specs.Client.{made}
use Rattle.original.specs.Copy.{turns, write_all}
use Rattle.original.specs.Handshake.{option, options, handshake}
use Rattle.original.specs.Transmission.{command, one_request, transmission}
use Rattle.original.specs.Server.{session}
use Rattle.wire.specs.Cases.{same}
use Rattle.original.specs.Witness.{Witness, image, table, input, tests, ran, Differs, past_read, past_write, read_only_write, cut_write, measured, AfterFault, WhileOwed, long_name, LongName}

different : (a b : List ℕ) → same_bytes a b ≡ false → a ≡ b → ⊥
different a b h e =
    let s : same_bytes a b ≡ true = rw e (same_bytes_refl b) in
    let z : ◌≡◌ {A = ℕ} 0 1 = cc in omega arith

-- what was sent differs, or how it ends
module _ (w : Witness) (finishes : Finished (turn (table w) (ran w).stands) (ran w).rest) where
  by_sent : same_bytes (ran w).given (session (table w) image (input w)).sent ≡ false → Differs w
  by_sent h = record { finishes = finishes; not_same = λ s. different (ran w).given (session (table w) image (input w)).sent h s.same_sent }

  by_end : (session (table w) image (input w)).outcome ≡ sudden_eof → Differs w
  by_end h = record { finishes = finishes; not_same = λ s. let z : ◌≡◌ {A = ℕ} 0 1 = cc s.same_end in omega arith }

pub all_differ :
    ((tests past_read ≡ true ∷ false ∷ false ∷ false ∷ []) × Differs past_read)
    × ((tests past_write ≡ false ∷ true ∷ false ∷ false ∷ []) × Differs past_write)
    × ((tests read_only_write ≡ false ∷ false ∷ true ∷ false ∷ []) × Differs read_only_write)
    × ((tests cut_write ≡ false ∷ false ∷ false ∷ true ∷ []) × Differs cut_write)
unfolding be number same_bytes wire.greeting wire.export_reply wire.simple_reply next lead record_bytes front sized records_in records wire_flags started owed judge_flags named payload judge_option requested has export_flags octets greeting export_reply replyt turns write_all option options handshake command one_request transmission
all_differ = (
  (refl, by_sent past_read (record { none_left = λ w. refl; none_owed = refl }) refl),
  (refl, by_sent past_write (record { none_left = λ w. refl; none_owed = refl }) refl),
  (refl, by_sent read_only_write (record { none_left = λ w. refl; none_owed = refl }) refl),
  (refl, by_end cut_write (record { none_left = λ w. refl; none_owed = refl }) refl),
)

-- ---- what was measured of the crate over a window of 8 bytes (docs/DIFFERENCES.md), as the definition has it
pub as_measured : same measured ≡ true
unfolding be number same_bytes replyt turns write_all command one_request
as_measured = refl

-- ---- the client
pub after_fault : AfterFault
unfolding be number replyt made
after_fault = record { faults = refl; goes_on = refl; refuses = refl }

pub while_owed : WhileOwed
unfolding made
while_owed = record { sends_first = append-nil (sendrequest NBD_CMD_FLUSH 0 0); faults = refl; owes = refl; ends_unsent = refl }

pub long_name_lem : LongName
unfolding be same_bytes greeting client.handshake
long_name_lem = record { sends_it = append-nil (export_name long_name); refuses = refl }
