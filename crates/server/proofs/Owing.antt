-- What the phases of the handshake owe, given as far as the room goes.
--   option_owed, exported_owed   the replies whose bytes the code has in another form
--   owed_within                  no more is owed than the reply has
--   owed_emits                   the bytes that are given are moves of the machine
use Prim.Native.Nat.{ℕ, ◌-◌, ◌≤◌}
use mathlib.Core.Path.{◌≡◌, refl, sym, ◌∙◌}
use mathlib.Core.Bool.{Bool, true, false}
use mathlib.Core.List.{List, []}
use native.Mathlib.Omega.{arith}
use lib.ListN.{length, take}
use Rattle.machine.specs.Machine.{on, owes}
use Rattle.machine.specs.Inner.{Given}
use Rattle.machine.specs.Pieces.{Emits}
use Rattle.machine.proofs.Leaves.{emits_idle}
use Rattle.wire.specs.Constants.{NBD_OPT_ABORT, NBD_REP_ACK, NBD_REP_ERR_UNSUP}
use Rattle.wire.specs.Layouts.{greeting, option_reply, option_reply_head}
use Rattle.wire.specs.declared.table.Export.{Export}
use Rattle.server.specs.Session.{Handshake, Greeting, ClientFlags, OptionHead, Naming, Passing, Listing, Declining, Aborting, Exporting}
use Rattle.server.specs.Session.{State, Shaking, list_replies, declined, aborted, exported, greeted, listing, declining, aborting, exporting, reply_length, turn}
use Rattle.server.specs.Inner.{reply_of, left_of, with_left, Owes}
use Rattle.server.specs.Ranges.{ranged_shaking}
use Rattle.server.proofs.Bounds.{between_true, declining_bounds, exporting_bounds}
use Rattle.server.proofs.Left.{greeted_more, listing_more, declining_more, aborting_more, exporting_more}
use Rattle.server.proofs.Session.{owed_leaf, length_greeting, length_list, length_option, length_exported, option_empty, exported_part}

pub option_owed : (option type left : ℕ) {made : List ℕ} → take 20 made ≡ option_reply_head option type 0 → Owes (option_reply option type []) left made 20 left
option_owed option type left e = record { all = sym (length_option option type); front = e ∙ option_empty option type; still = refl }

pub exported_owed : (z : Bool) (e : Export) (left : ℕ) {all : ℕ} {made : List ℕ} → all ≡ reply_length z → made ≡ exported true e
    → Owes (exported z e) left made all left
exported_owed z e left p q = record { all = p ∙ sym (length_exported z e); front = rw (p, q) (exported_part z e); still = refl }

pub owed_within : (p : Handshake) → ranged_shaking p ≡ true → left_of p ≤ length (reply_of p)
owed_within (Greeting left) h = rw length_greeting (between_true 1 18 left h).1
owed_within (ClientFlags got) h = omega arith
owed_within (OptionHead z got) h = omega arith
owed_within (Naming z fits text at left) h = omega arith
owed_within (Passing z option len left) h = omega arith
owed_within (Listing z left) h = rw length_list (between_true 1 51 left h).1
owed_within (Declining z option left) h = rw (length_option option NBD_REP_ERR_UNSUP) (declining_bounds option left h).1
owed_within (Aborting left) h = rw (length_option NBD_OPT_ABORT NBD_REP_ACK) (between_true 1 20 left h).1
owed_within (Exporting z e left) h = rw (length_exported z e) (exporting_bounds e.flags (reply_length z) left h).1

module _ (t m : List ℕ) {room room' : List ℕ} {n : ℕ} {x : State} where
  none_owed : {s : State} {l : List ℕ} → owes (turn t (on s m)) ≡ false → Given l 0 room n room' → x ≡ s → Emits (turn t) (on s m) room n (on x m) room'
  none_owed idle g e =
      let z : n ≡ 0 = omega (arith, g.least) in
      rw (e, g.written, z) (emits_idle idle)

  each_phase : (p : Handshake) → ranged_shaking p ≡ true → Given (reply_of p) (left_of p) room n room' → x ≡ with_left p (left_of p - n)
      → Emits (turn t) (on (Shaking p) m) room n (on x m) room'
  each_phase (Greeting left) h g e =
      let b = between_true 1 18 left h in
      owed_leaf t greeted greeting m (λ left. refl) refl b.0 (owed_within (Greeting left) h) (greeted_more left (λ z. omega (arith, b.0))) g e
  each_phase (ClientFlags got) h g e = none_owed refl g e
  each_phase (OptionHead z got) h g e = none_owed refl g e
  each_phase (Naming z fits text at left) h g e = none_owed refl g e
  each_phase (Passing z option len left) h g e = none_owed refl g e
  each_phase (Listing z left) h g e =
      let b = between_true 1 51 left h in
      owed_leaf t (listing z) list_replies m (λ left. refl) refl b.0 (owed_within (Listing z left) h) (listing_more z left (λ k. omega (arith, b.0))) g e
  each_phase (Declining z option left) h g e =
      let b = declining_bounds option left h in
      owed_leaf t (declining z option) (declined option) m (λ left. refl) refl b.0 (owed_within (Declining z option left) h) (declining_more z option left (λ k. omega (arith, b.0))) g e
  each_phase (Aborting left) h g e =
      let b = between_true 1 20 left h in
      owed_leaf t aborting aborted m (λ left. refl) refl b.0 (owed_within (Aborting left) h) (aborting_more left (λ k. omega (arith, b.0))) g e
  each_phase (Exporting z e left) h g q =
      let b = exporting_bounds e.flags (reply_length z) left h in
      owed_leaf t (exporting z e) (exported z e) m (λ left. refl) refl b.0 (owed_within (Exporting z e left) h) (exporting_more z e left (λ k. omega (arith, b.0))) g q

  pub owed_emits : (p : Handshake) → ranged_shaking p ≡ true → {bytes : List ℕ} {len left : ℕ} → Owes (reply_of p) (left_of p) bytes len left
      → Given (take len bytes) left room n room' → x ≡ with_left p (left - n) → Emits (turn t) (on (Shaking p) m) room n (on x m) room'
  owed_emits p h o g e = each_phase p h (rw (o.front, o.still) at g) (rw o.still at e)
