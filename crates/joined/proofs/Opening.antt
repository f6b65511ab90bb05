-- The handshake: the two machines talk, and what the client is told is what the record says.
--   same_fields      the five fields by the wire's flags are those of the table's flags
--   handshake_talk   from a fresh client and a fresh server to the first call
use Prim.Native.Nat.{ℕ, ◌+◌, ◌-◌, ◌/◌, ◌%◌, ◌^◌, ◌≤◌, ◌<◌}
use mathlib.Core.Path.{◌≡◌, refl, sym, ap, ◌∙◌}
use mathlib.Core.Bool.{Bool, true, false, not}
use mathlib.Core.List.{List, [], ◌∷◌, ◌++◌}
use native.Mathlib.Omega.{arith}
use borrow.Author.Tests.{eqb-true, eqb-false}
use lib.Dec.{eqb}
use lib.ListN.{length, take, drop, length-drop, take-append-drop}
use lib.Seq.{length-take-le, take-add}
use Rattle.machine.specs.Choice.{pick}
use Rattle.machine.specs.Machine.{on, Moves}
use Rattle.machine.specs.Wires.{Talk}
use Rattle.machine.proofs.Moves.{then}
use Rattle.machine.proofs.Talking.{talk_then, hand_down, exchange}
use Rattle.wire.specs.Fields.{be}
use Rattle.wire.specs.Layouts.{greeting, export_reply, export_name}
use Rattle.wire.specs.Table.{SoundRecord, bit, wire_flags}
use Rattle.wire.specs.Utf8.{valid}
use Rattle.wire.specs.declared.table.Export.{Export}
use Rattle.wire.proofs.BigEndian.{length_be}
use Rattle.wire.proofs.Soundness.{sound_table, sound_at}
use Rattle.server.specs.Session as server
use Rattle.server.proofs.Whole.{greeting_given}
use Rattle.server.proofs.Negotiation.{whole_flags_1, whole_export}
use Rattle.client.specs.Calls.{fields_of, device}
use Rattle.client.specs.Session.{Magic, Shaking, Closed, turn}
use Rattle.client.specs.Contract.{fields_values}
use Rattle.client.specs.declared.state.Outcome.TheVariants.{Succeeded}
use Rattle.client.specs.declared.state.Value.TheVariants.{Opened}
use Rattle.client.proofs.Alone.{handshake_new, carried_new}
use Rattle.joined.specs.Disk.{Call}
use Rattle.joined.specs.Code.{Holds, export, disk, opening}
use Rattle.joined.proofs.Driver.{busy, next, drive}
use Rattle.joined.proofs.Driving.{follows}
use Rattle.joined.proofs.Parts.{given_first, taken_first, taken_whole}
use Rattle.joined.proofs.Sent.{greeting_taken, hello_sent, name_taken}
use Rattle.joined.proofs.Agree.{Agrees}

-- ---- the fields
abbrev digit : Bool → ℕ
digit b = pick b 1 0

by_bits : (a b c d : Bool) → fields_values (fields_of (1 + pick a 2 4 + pick b 512 0 + pick c 16 0 + pick d 32 0)) ≡ digit a ∷ digit b ∷ digit c ∷ digit d ∷ digit (not a) ∷ []
by_bits true true true true = refl
by_bits true true true false = refl
by_bits true true false true = refl
by_bits true true false false = refl
by_bits true false true true = refl
by_bits true false true false = refl
by_bits true false false true = refl
by_bits true false false false = refl
by_bits false true true true = refl
by_bits false true true false = refl
by_bits false true false true = refl
by_bits false true false false = refl
by_bits false false true true = refl
by_bits false false true false = refl
by_bits false false false true = refl
by_bits false false false false = refl

digit_of : (x : ℕ) → digit (eqb (x % 2) 1) ≡ x % 2
digit_of x = go (eqb (x % 2) 1) refl
  where
    go : (b : Bool) → eqb (x % 2) 1 ≡ b → digit b ≡ x % 2
    go true e = sym (eqb-true (x % 2) 1 e)
    go false e = let h = eqb-false (x % 2) 1 e in omega arith

digit_not : (b : Bool) → digit (not b) ≡ 1 - digit b
digit_not true = refl
digit_not false = refl

lowest_bit : (f : ℕ) → f / 2 ^ 0 % 2 ≡ f % 2
lowest_bit f = omega arith

same_fields : (f : ℕ) → fields_values (fields_of (wire_flags f)) ≡ f % 2 ∷ f / 2 % 2 ∷ f / 4 % 2 ∷ f / 8 % 2 ∷ (1 - f % 2) ∷ []
unfolding wire_flags
same_fields f =
    by_bits (bit 0 f) (bit 1 f) (bit 2 f) (bit 3 f)
    ∙ rw (digit_not (bit 0 f), lowest_bit f, digit_of f, digit_of (f / 2), digit_of (f / 4), digit_of (f / 8))

at_most : (b : Bool) (x y m : ℕ) → x ≤ m → y ≤ m → pick b x y ≤ m
at_most true x y m p q = p
at_most false x y m p q = q

flags_fit : (f : ℕ) → wire_flags f < 2 ^ 16
unfolding wire_flags
flags_fit f =
    let a = at_most (bit 0 f) 2 4 4 (omega arith) (omega arith) in
    let b = at_most (bit 1 f) 512 0 512 (omega arith) (omega arith) in
    let c = at_most (bit 2 f) 16 0 16 (omega arith) (omega arith) in
    let d = at_most (bit 3 f) 32 0 32 (omega arith) (omega arith) in
    omega arith

module _ {t img name : List ℕ} {k : ℕ} (holds : Holds t img name k) where
  abbrev e : Export
  e = server.export_at t k

  pub sound_record : SoundRecord (length img) (export t k)
  sound_record = sound_at (sound_table (length img) t holds.bytes holds.sound).0 k holds.found.fits.listed

  pub short : length name ≤ 4096
  short = rw holds.found.fits.named at sound_record.short_name

  text : valid name ≡ true
  text = rw holds.found.fits.named at sound_record.text

  -- ---- the image in three parts
  pub front : length (take e.start img) ≡ e.start
  front = length-take-le e.start img (let w = sound_record.window in omega arith)

  pub window_size : length (disk (export t k) img).bytes ≡ e.size
  window_size = length-take-le e.size (drop e.start img) (let w = sound_record.window in omega (arith, length-drop e.start img))

  pub in_parts : take e.start img ++ (disk (export t k) img).bytes ++ drop (e.start + e.size) img ≡ img
  in_parts = rw (← take-add e.start e.size img) (take-append-drop (e.start + e.size) img)

  pub first_agrees : Agrees e (device e.size (wire_flags e.flags)) (disk (export t k) img)
  first_agrees = record {
    same_size = sym window_size;
    same_position = refl;
    whole = window_size;
    same_flag = ap (λ (x : ℕ). eqb x 1) (lowest_bit e.flags);
  }

  abbrev reply : List ℕ
  reply = export_reply e.size (wire_flags e.flags) true

  client_whole : Moves turn (on (Shaking (length name) (Magic [])) name) (greeting ++ reply) (export_name name)
      (on (Closed (Succeeded (Opened e.size (fields_of (wire_flags e.flags)))) (device e.size (wire_flags e.flags))) name)
  unfolding greeting
  client_whole = handshake_new name (be 2 3) e.size (wire_flags e.flags) (length_be 2 3) sound_record.size_fits (flags_fit e.flags)

  server_whole : Moves (server.turn t) (on (server.Shaking (server.ClientFlags [])) img) (export_name name) reply (on (server.Serving e (server.Header [])) img)
  unfolding export_name
  server_whole = then (whole_flags_1 t img) (whole_export t img true name (omega (arith, short)) k text holds.found)

  pub carried_up : length (export_name name) ≡ 20 + length name
  carried_up = (carried_new name (be 2 3) e.size (wire_flags e.flags) (length_be 2 3)).0

  pub carried_down : length (greeting ++ reply) ≡ 152
  unfolding greeting
  carried_down = (carried_new name (be 2 3) e.size (wire_flags e.flags) (length_be 2 3)).1

  pub handshake_talk : (ks : List Call)
      → Talk drive (server.turn t) (export_name name) (greeting ++ reply) (busy (Shaking (length name) (Magic [])) name ks []) (on (server.Shaking (server.Greeting 18)) img)
      (next (device e.size (wire_flags e.flags)) ks (opening (export t k) name ∷ [])) (on (server.Serving e (server.Header [])) img)
  handshake_talk ks =
      let p = greeting_taken (length name) name in
      let q = hello_sent name in
      let r = given_first q (taken_first p client_whole) in
      let n = name_taken t img name (omega (arith, short)) in
      let told = talk_then (hand_down (follows ks [] p) (greeting_given t img)) (exchange (follows ks [] q) n (follows ks [] r) (taken_whole n server_whole)) in
      rw (same_fields e.flags) at told
