-- The session's runs of bytes, by machine's laws.
--   each_owed, owed_leaf   bytes of a reply are moves of the machine
--   each_..       the runs of bytes that are dropped and sent
--   length_..     the replies' lengths
use Prim.Native.Nat.{ℕ, suc, ◌-◌, ◌≤◌, ◌<◌}
use mathlib.Core.Path.{◌≡◌, refl, ap, ◌∙◌}
use mathlib.Core.Bool.{Bool, true, false}
use mathlib.Core.List.{List, []}
use native.Mathlib.Omega.{arith}
use lib.ListN.{length, get_or, take, drop}
use lib.Seq.{paste}
use Rattle.machine.specs.Machine.{on, gives}
use Rattle.machine.specs.Pieces.{Emits}
use Rattle.machine.proofs.Families.{Sends, Drops}
use Rattle.machine.proofs.Leaves.{send_leaf}
use Rattle.wire.specs.Fields.{be}
use Rattle.wire.specs.Layouts.{greeting, option_reply, option_reply_head, export_reply, simple_reply}
use Rattle.wire.specs.declared.table.Export.{Export}
use Rattle.server.specs.Session.{State, sending, dropping, passing, list_replies, exported, reply_length, window, turn}
use Rattle.machine.specs.Parts.{owing}
use Rattle.machine.specs.Inner.{Given}

-- a reply l, of which `left` bytes are owed in the state f left; the code has it in an array
module _ (t : List ℕ) (f : ℕ → State) (l m : List ℕ) (each : (left : ℕ) → turn t (on (f (suc left)) m) ≡ gives (owing l (suc left)) (on (f left) m)) where
  pub each_owed : Sends (turn t) (λ sent left. f left) l (length l) m
  each_owed sent left h =
      let i : length l - suc left ≡ sent = omega arith in
      each left ∙ ap (λ (k : ℕ). gives (get_or l k 0) (on (f left) m)) i

  pub owed_leaf : {bytes room room' : List ℕ} {left n : ℕ} {s x : State} → bytes ≡ l → 0 < left → left ≤ length l → s ≡ f left
      → Given bytes left room n room' → x ≡ f (left - n) → Emits (turn t) (on s m) room n (on x m) room'
  owed_leaf {room = room} {left = left} {n = n} q some fits p g e =
      send_leaf (λ sent left. f left) l (length l) each_owed {off = length l - left} p g.least some (omega arith) (omega arith) e
      (g.written ∙ ap (λ (b : List ℕ). paste room 0 (drop (length b - left) b) n) q)

-- ---- payload that is dropped, and data
pub each_dropped : (t : List ℕ) (e : Export) (error handle : ℕ) → Drops (turn t) (dropping e error handle)
each_dropped t e error handle left m = refl

pub each_passed : (t : List ℕ) (z : Bool) (option len : ℕ) → Drops (turn t) (passing z option len)
each_passed t z option len left m = refl

pub each_sent : (t : List ℕ) (e : Export) (m : List ℕ) (end : ℕ) → Sends (turn t) (sending e) (window e m) end m
each_sent t e m end off left h = refl

-- ---- the replies' lengths
pub length_reply : (error handle : ℕ) → length (simple_reply error handle) ≡ 16
unfolding simple_reply be
length_reply error handle = refl

pub length_greeting : length greeting ≡ 18
unfolding greeting be
length_greeting = refl

pub length_list : length list_replies ≡ 51
unfolding list_replies option_reply option_reply_head be
length_list = refl

pub length_option : (option type : ℕ) → length (option_reply option type []) ≡ 20
unfolding option_reply option_reply_head be
length_option option type = refl

-- a reply with no data is its fields
pub option_empty : (option type : ℕ) → option_reply_head option type 0 ≡ option_reply option type []
unfolding option_reply option_reply_head be
option_empty option type = refl

-- ---- the reply to EXPORT_NAME is a first part of the longer one
pub length_exported : (z : Bool) (e : Export) → length (exported z e) ≡ reply_length z
unfolding export_reply be
length_exported true e = refl
length_exported false e = refl

pub exported_part : (z : Bool) (e : Export) → take (reply_length z) (exported true e) ≡ exported z e
unfolding export_reply be
exported_part true e = refl
exported_part false e = refl
