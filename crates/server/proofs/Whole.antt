-- Runs of bytes in one piece: replies given whole, headers gathered whole, payloads taken whole.
--   owed_whole      bytes that are owed are given
--   ..-given        each reply, and the data behind it
--   gather_whole    bytes are gathered up to the next place where they are judged
--   and_gives       what is taken, and then what is given
use Prim.Native.Nat.{ℕ, suc, ◌+◌, ◌≤◌, ◌<◌}
use mathlib.Core.Path.{◌≡◌, refl}
use mathlib.Core.Bool.{Bool, true, false}
use mathlib.Core.List.{List, [], ◌∷◌, ◌++◌, append-nil}
use native.Mathlib.Omega.{arith}
use lib.ListN.{length, take, drop}
use lib.Seq.{take-length}
use Rattle.machine.specs.Machine.{On, on, gives, Moves}
use Rattle.machine.proofs.Families.{Gathers, Quiet}
use Rattle.machine.proofs.Moves.{then}
use Rattle.machine.proofs.Bulk.{sends, gathers}
use Rattle.wire.specs.Layouts.{greeting, simple_reply}
use Rattle.wire.specs.Constants.{NBD_OPT_ABORT, NBD_REP_ACK, NBD_REP_ERR_UNSUP}
use Rattle.wire.specs.declared.table.Export.{Export}
use Rattle.machine.specs.Parts.{owing}
use Rattle.server.specs.Session.{State, Greeting, ClientFlags, OptionHead, Listing, Declining, Aborting, Exporting, Shaking, Header, Replying, Serving, Over}
use Rattle.server.specs.Session.{window, greeted, listing, declining, aborting, exporting, replying, sending, list_replies, declined, aborted, exported, reply_length, turn}
use Rattle.server.proofs.Left.{exporting_more}
use Rattle.server.proofs.Session.{each_owed, each_sent, length_greeting, length_list, length_option, length_exported, length_reply}

pub and_gives : (t : List ℕ) {is os : List ℕ} {x y z : On State} → Moves (turn t) x is [] y → Moves (turn t) y [] os z → Moves (turn t) x is os z
and_gives t {is = is} p q = rw append-nil at (then p q)

module _ (t m : List ℕ) where
  -- ---- what is given
  owed_whole : (f : ℕ → State) (l : List ℕ) (n : ℕ) → length l ≡ n → ((left : ℕ) → turn t (on (f (suc left)) m) ≡ gives (owing l (suc left)) (on (f left) m))
      → Moves (turn t) (on (f n) m) [] l (on (f 0) m)
  owed_whole f l n e each =
      let given = sends (turn t) (λ sent left. f left) l m (length l) (each_owed t f l m each) (omega arith) (length l) 0 (length l) 0 (length l) (omega arith) (omega arith) (omega arith) in
      rw (← e) (rw take-length at given)

  pub greeting_given : Moves (turn t) (on (Shaking (Greeting 18)) m) [] greeting (on (Shaking (ClientFlags [])) m)
  greeting_given = owed_whole greeted greeting 18 length_greeting (λ left. refl)

  pub list_given : (z : Bool) → Moves (turn t) (on (Shaking (Listing z 51)) m) [] list_replies (on (Shaking (OptionHead z [])) m)
  list_given z = owed_whole (listing z) list_replies 51 length_list (λ left. refl)

  pub declined_given : (z : Bool) (option : ℕ) → Moves (turn t) (on (Shaking (Declining z option 20)) m) [] (declined option) (on (Shaking (OptionHead z [])) m)
  declined_given z option = owed_whole (declining z option) (declined option) 20 (length_option option NBD_REP_ERR_UNSUP) (λ left. refl)

  pub aborted_given : Moves (turn t) (on (Shaking (Aborting 20)) m) [] aborted (on (Over 7) m)
  aborted_given = owed_whole aborting aborted 20 (length_option NBD_OPT_ABORT NBD_REP_ACK) (λ left. refl)

  pub exported_given : (z : Bool) (e : Export) → Moves (turn t) (on (Shaking (Exporting z e (reply_length z))) m) [] (exported z e) (on (Serving e (Header [])) m)
  exported_given z e =
      rw (exporting_more z e (reply_length z) (some z)) (owed_whole (exporting z e) (exported z e) (reply_length z) (length_exported z e) (λ left. refl))
    where
      some : (z : Bool) → reply_length z ≡ 0 → ⊥
      some true h = omega arith
      some false h = omega arith

  pub reply_given : (e : Export) (error handle off len : ℕ)
      → Moves (turn t) (on (Serving e (Replying error handle 16 off len)) m) [] (simple_reply error handle) (on (sending e off len) m)
  reply_given e error handle off len =
      owed_whole (λ left. replying e error handle left off len) (simple_reply error handle) 16 (length_reply error handle) (λ left. refl)

  pub data_given : (e : Export) (off len : ℕ) → off + len ≤ length (window e m)
      → Moves (turn t) (on (sending e off len) m) [] (take len (drop off (window e m))) (on (Serving e (Header [])) m)
  data_given e off len h = sends (turn t) (sending e) (window e m) m (off + len) (each_sent t e m (off + len)) h len off len 0 (off + len) refl (omega arith) refl

  -- ---- what is gathered
  pub gather_whole : (wait judge : List ℕ → State) (to : ℕ) → Gathers (turn t) wait judge m → (got is : List ℕ) → Quiet (turn t) wait judge (length got) to
      → 0 < length is → length got + length is ≤ to → Moves (turn t) (on (wait got) m) is [] (on (judge (got ++ is)) m)
  gather_whole wait judge to each got [] quiet some fits = absurd (omega arith)
  gather_whole wait judge to each got (b ∷ is) quiet some fits = gathers (turn t) wait judge (length got) to each quiet b is got (omega arith) (omega arith)
