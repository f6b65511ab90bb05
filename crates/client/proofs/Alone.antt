-- The handshake and each call alone, from the first byte to the last: what is taken, what is sent, and how it closes.
--   owed_run        a list that is owed whole
--   handshake_new   a new-style server, whatever its two bytes of flags
--   handshake_old   an old-style server, and the empty name
--   call_alone      a call and a good reply, with a read's data behind it
--   call_fails      a call and a reply with an error
--   carried_..      and so how many bytes are carried, as 01 has it ("Carried bytes")
use Prim.Native.Nat.{ℕ, suc, ◌+◌, ◌-◌, ◌%◌, ◌^◌, ◌≤◌, ◌<◌}
use mathlib.Core.Path.{◌≡◌, refl, sym, ap, ◌∙◌}
use mathlib.Core.Bool.{Bool, true, false}
use mathlib.Core.List.{List, [], ◌∷◌, ◌++◌, append-nil, append_assoc, foldl}
use native.Mathlib.Omega.{arith}
use borrow.Author.Tests.{ne_eqb}
use lib.Dec.{eqb}
use lib.ListN.{length, take, drop, length-append}
use lib.Seq.{take-length, take_all, take_at, drop_at, length-take-le, sets}
use Rattle.machine.specs.Choice.{both}
use Rattle.machine.specs.Machine.{on, gives, Moves}
use Rattle.machine.proofs.Families.{Gathers}
use Rattle.machine.proofs.Moves.{then}
use Rattle.machine.proofs.Bulk.{sends, drops, folds, gathers}
use Rattle.wire.specs.Fields.{be, number, field, same_bytes}
use Rattle.wire.specs.Constants.{NBDMAGIC, IHAVEOPT, OLDSTYLE, NBD_REPLY_MAGIC}
use Rattle.wire.specs.Layouts.{zeros, export_reply, oldstyle_header, option_request, export_name, simple_reply}
use Rattle.wire.proofs.BigEndian.{length_be, number_be}
use Rattle.client.specs.Calls.{fields_of, device, payload, wanted, request_bytes, value_of, moved}
use Rattle.client.specs.Session.{Magic, Style, Newstyle, Hello, SizeAndFlags, Filler, Asking, Hearing, State, Shaking, Calling, Closed, hello, judge_magic, judge_style, naming, greeting, newstyle, judge_size_and_flags, filler, done, filling, paying, after_request, replied, heard, turn}
use Rattle.client.specs.declared.state.Device.{Device}
use Rattle.client.specs.declared.state.Call.{Call}
use Rattle.client.specs.declared.state.Value.TheVariants.{Opened}
use Rattle.client.specs.declared.state.Outcome.TheVariants.{Succeeded, Failed}
use Rattle.machine.specs.Parts.{owing}
use Rattle.machine.proofs.Zeros.{blank_fold, blank_zeros}
use Rattle.client.proofs.Header.{magic_part, style_part, terms_part, reply_part}
use Rattle.client.proofs.Runs.{each_owed, fills, length_hello, length_asks}

-- ---- runs from their first byte to their last
-- a list that is owed whole
pub owed_run : (f : ℕ → State) (l m : List ℕ) → ((left : ℕ) → turn (on (f (suc left)) m) ≡ gives (owing l (suc left)) (on (f left) m))
    → (k : ℕ) → k ≡ length l → Moves turn (on (f k) m) [] l (on (f 0) m)
owed_run f l m each k e =
    let all = sends turn (λ sent left. f left) l m (length l) (each_owed f l m each) (omega arith) (length l) 0 k 0 (length l) (omega arith) (omega arith) (omega arith) in
    rw (take-length l) at all

-- bytes gathered until they are judged
pub gathered_run : (wait judge : List ℕ → State) (to : ℕ) → ((h : List ℕ) → length h < to → judge h ≡ wait h) → (h m : List ℕ) → Gathers turn wait judge m
    → length h ≡ to → 0 < to → Moves turn (on (wait []) m) h [] (on (judge h) m)
gathered_run wait judge to quiet [] m each e some = absurd (omega arith)
gathered_run wait judge to quiet (b ∷ h) m each e some =
    gathers turn wait judge {m = m} 0 to each (λ k lo hi. quiet k hi) b h [] (omega arith) (omega arith)

-- ---- a call
good_reply : (d : Device) (c : Call) → heard d c (simple_reply 0 0) ≡ filling d c (wanted c)
unfolding heard replied simple_reply be number
good_reply d c = refl

length_reply : (error : ℕ) → length (simple_reply error 0) ≡ 16
unfolding simple_reply be
length_reply error = refl

module _ (d : Device) (c : Call) (m : List ℕ) (fits : payload c ≤ length m) where
  -- up to the reply's last byte
  pub call_heard : (h : List ℕ) → length h ≡ 16 → Moves turn (on (Calling d c (Asking 28)) m) h (request_bytes d c ++ take (payload c) m) (on (heard d c h) m)
  call_heard h e =
      let p : Moves turn (on (after_request d c 28) m) [] (request_bytes d c) (on (paying d c (payload c)) m) =
      owed_run (after_request d c) (request_bytes d c) m (λ _. refl) 28 (sym (length_asks d c)) in
      let q : Moves turn (on (paying d c (payload c)) m) [] (take (payload c) m) (on (Calling d c (Hearing [])) m) =
      owed_run (paying d c) (take (payload c) m) m (λ _. refl) (payload c) (sym (length-take-le (payload c) m fits)) in
      let r : Moves turn (on (Calling d c (Hearing [])) m) h [] (on (heard d c h) m) =
      gathered_run (λ l. Calling d c (Hearing l)) (heard d c) 16 (reply_part d c) h m (λ _. refl) e (omega arith) in
      rw (append-nil (request_bytes d c ++ take (payload c) m)) at (then (then p q) r)

  pub call_alone : (data' : List ℕ) → length data' ≡ wanted c
      → Moves turn (on (Calling d c (Asking 28)) m) (simple_reply 0 0 ++ data') (request_bytes d c ++ take (payload c) m) (on (Closed (Succeeded (value_of c)) (moved d c)) (sets m 0 data'))
  call_alone data' e =
      let z : wanted c - wanted c ≡ 0 = omega arith in
      let p : Moves turn (on (filling d c (wanted c)) m) data' [] (on (done d c) (sets m 0 data')) =
      rw z at (fills d c data' (wanted c) 0 m (omega arith) (omega arith)) in
      let q : Moves turn (on (Calling d c (Asking 28)) m) (simple_reply 0 0) (request_bytes d c ++ take (payload c) m) (on (filling d c (wanted c)) m) =
      rw (good_reply d c) at (call_heard (simple_reply 0 0) (length_reply 0)) in
      rw (append-nil (request_bytes d c ++ take (payload c) m)) at (then q p)

-- ---- a reply with an error
error_bytes : (error : ℕ) → take 4 (drop 4 (be 4 NBD_REPLY_MAGIC ++ be 4 error ++ be 8 0)) ≡ be 4 error
unfolding be
error_bytes error = refl

module _ (error : ℕ) where
  reply_magic : field (simple_reply error 0) 0 4 ≡ NBD_REPLY_MAGIC
  unfolding simple_reply be number
  reply_magic = refl

  reply_handle : field (simple_reply error 0) 8 8 ≡ 0
  unfolding simple_reply be number
  reply_handle = refl

  reply_error : error < 2 ^ 32 → field (simple_reply error 0) 4 4 ≡ error
  unfolding simple_reply
  reply_error h = ap number (error_bytes error) ∙ number_be 4 error h

bad_reply : (d : Device) (c : Call) (error : ℕ) → error < 2 ^ 32 → (error ≡ 0 → ⊥) → heard d c (simple_reply error 0) ≡ Closed (Failed error) d
unfolding heard replied
bad_reply d c error h ne = rw (length_reply error, reply_magic error, reply_handle error, reply_error error h, ne_eqb error 0 ne)

pub call_fails : (d : Device) (c : Call) (m : List ℕ) → payload c ≤ length m → (error : ℕ) → error < 2 ^ 32 → (error ≡ 0 → ⊥)
    → Moves turn (on (Calling d c (Asking 28)) m) (simple_reply error 0) (request_bytes d c ++ take (payload c) m) (on (Closed (Failed error) d) m)
call_fails d c m fits error h ne = rw (bad_reply d c error h ne) at (call_heard d c m fits (simple_reply error 0) (length_reply error))

-- ---- the handshake
-- the size, and the flags in k bytes
module _ (k size flags : ℕ) where
  terms_long : length (be 8 size ++ be k flags) ≡ 8 + k
  terms_long = length-append (be 8 size) (be k flags) ∙ rw (length_be 8 size, length_be k flags)

  size_field : size < 256 ^ 8 → field (be 8 size ++ be k flags) 0 8 ≡ size
  size_field h = ap number (take_at (be 8 size) (be k flags) 8 (length_be 8 size)) ∙ number_be 8 size h

  flags_field : flags < 256 ^ k → field (be 8 size ++ be k flags) 8 k ≡ flags
  flags_field h =
      rw (drop_at (be 8 size) (be k flags) 8 (length_be 8 size), take_all k (be k flags) (omega (arith, length_be k flags))) (number_be k flags h)

new_terms : (n size flags : ℕ) → size < 2 ^ 64 → flags < 2 ^ 16 → judge_size_and_flags n false (be 8 size ++ be 2 flags) ≡ Shaking n (Filler size flags true 124)
unfolding judge_size_and_flags
new_terms n size flags p q = rw (terms_long 2 size flags, size_field 2 size flags p, flags_field 2 size flags q)

old_terms : (n size flags : ℕ) → size < 2 ^ 64 → flags < 2 ^ 32
    → judge_size_and_flags n true (be 8 size ++ be 4 flags) ≡ Shaking n (Filler size (flags % 2 ^ 16) true 124)
unfolding judge_size_and_flags
old_terms n size flags p q = rw (terms_long 4 size flags, size_field 4 size flags p, flags_field 4 size flags q)

magic_good : (n : ℕ) → judge_magic n NBDMAGIC ≡ Shaking n (Style [])
unfolding judge_magic same_bytes
magic_good n = refl

style_good : (n : ℕ) → judge_style n IHAVEOPT ≡ Shaking n (Newstyle 2)
unfolding judge_style same_bytes
style_good n = refl

style_old_good : judge_style 0 OLDSTYLE ≡ Shaking 0 (SizeAndFlags true [])
unfolding judge_style same_bytes
style_old_good = refl

module _ (n : ℕ) (m : List ℕ) where
  magic_run : Moves turn (on (Shaking n (Magic [])) m) NBDMAGIC [] (on (Shaking n (Style [])) m)
  magic_run = rw (magic_good n) at (gathered_run (λ h. Shaking n (Magic h)) (judge_magic n) 8 (magic_part n) NBDMAGIC m (λ _. refl) refl (omega arith))

  filler_run : (size flags : ℕ) → Moves turn (on (Shaking n (Filler size flags true 124)) m) zeros [] (on (Closed (Succeeded (Opened size (fields_of flags))) (device size flags)) m)
  filler_run size flags =
      let step : Bool → ℕ → Bool = λ v b. both v (eqb b 0) in
      let e : foldl step true zeros ≡ true = blank_fold true zeros ∙ blank_zeros 124 in
      rw e at (folds turn (filler n size flags) step {m = m} (λ _ _. refl) zeros true 124 0 refl)

  -- from the size on
  new_end : (size flags : ℕ) → size < 2 ^ 64 → flags < 2 ^ 16
      → Moves turn (on (Shaking n (SizeAndFlags false [])) m) (export_reply size flags true) [] (on (Closed (Succeeded (Opened size (fields_of flags))) (device size flags)) m)
  unfolding export_reply
  new_end size flags p q =
      then (rw (new_terms n size flags p q) at (gathered_run (λ h. Shaking n (SizeAndFlags false h)) (judge_size_and_flags n false) 10 (terms_part n false) (be 8 size ++ be 2 flags) m (λ _. refl) (terms_long 2 size flags) (omega arith)))
      (filler_run size flags)

-- what is sent: 20 bytes, and the name
hello_name : (name : List ℕ) → hello (length name) ++ name ≡ export_name name
unfolding hello export_name option_request be
hello_name name = refl

hello_run : (name : List ℕ) → Moves turn (on (Shaking (length name) (Hello 20)) name) [] (export_name name) (on (Shaking (length name) (SizeAndFlags false [])) name)
hello_run name =
    let n : ℕ = length name in
    let p : Moves turn (on (greeting n 20) name) [] (hello n) (on (naming n n) name) = owed_run (greeting n) (hello n) name (λ _. refl) 20 (sym (length_hello n)) in
    let q : Moves turn (on (naming n n) name) [] name (on (Shaking n (SizeAndFlags false [])) name) = owed_run (naming n) name name (λ _. refl) n refl in
    rw (hello_name name) at (then p q)

pub greeted_run : (name hs : List ℕ) → length hs ≡ 2
    → Moves turn (on (Shaking (length name) (Newstyle 2)) name) hs (export_name name) (on (Shaking (length name) (SizeAndFlags false [])) name)
greeted_run name hs two =
    let n : ℕ = length name in
    let b : Moves turn (on (newstyle n 2) name) hs [] (on (newstyle n 0) name) = drops turn (newstyle n) (λ _ _. refl) hs 2 0 name (omega arith) in
    rw (append-nil hs) at (then b (hello_run name))

pub handshake_new : (name hs : List ℕ) (size flags : ℕ) → length hs ≡ 2 → size < 2 ^ 64 → flags < 2 ^ 16
    → Moves turn (on (Shaking (length name) (Magic [])) name) (NBDMAGIC ++ IHAVEOPT ++ hs ++ export_reply size flags true) (export_name name)
    (on (Closed (Succeeded (Opened size (fields_of flags))) (device size flags)) name)
handshake_new name hs size flags two p q =
    let n : ℕ = length name in
    let a : Moves turn (on (Shaking n (Style [])) name) IHAVEOPT [] (on (Shaking n (Newstyle 2)) name) =
    rw (style_good n) at (gathered_run (λ h. Shaking n (Style h)) (judge_style n) 8 (style_part n) IHAVEOPT name (λ _. refl) refl (omega arith)) in
    let b = then (greeted_run name hs two) (new_end n name size flags p q) in
    rw (append-nil (export_name name), ← append_assoc (NBDMAGIC ++ IHAVEOPT) hs (export_reply size flags true)) at (then (then (magic_run n name) a) b)

pub handshake_old : (size flags : ℕ) → size < 2 ^ 64 → flags < 2 ^ 32
    → Moves turn (on (Shaking 0 (Magic [])) []) (oldstyle_header size flags) []
    (on (Closed (Succeeded (Opened size (fields_of (flags % 2 ^ 16)))) (device size (flags % 2 ^ 16))) [])
unfolding oldstyle_header
handshake_old size flags p q =
    let a : Moves turn (on (Shaking 0 (Style [])) []) OLDSTYLE [] (on (Shaking 0 (SizeAndFlags true [])) []) =
    rw style_old_good at (gathered_run (λ h. Shaking 0 (Style h)) (judge_style 0) 8 (style_part 0) OLDSTYLE [] (λ _. refl) refl (omega arith)) in
    let b : Moves turn (on (Shaking 0 (SizeAndFlags true [])) []) (be 8 size ++ be 4 flags) [] (on (Shaking 0 (Filler size (flags % 2 ^ 16) true 124)) []) =
    rw (old_terms 0 size flags p q) at (gathered_run (λ h. Shaking 0 (SizeAndFlags true h)) (judge_size_and_flags 0 true) 12 (terms_part 0 true) (be 8 size ++ be 4 flags) [] (λ _. refl) (terms_long 4 size flags) (omega arith)) in
    let c = filler_run 0 [] size (flags % 2 ^ 16) in
    then (then (then (magic_run 0 []) a) b) c

reply_long : (size flags : ℕ) → length (export_reply size flags true) ≡ 134
unfolding export_reply be
reply_long size flags = refl

-- ---- how many bytes: "Handshake: 20 + name length up, 152 down"
pub carried_new : (name hs : List ℕ) (size flags : ℕ) → length hs ≡ 2
    → (length (export_name name) ≡ 20 + length name) × (length (NBDMAGIC ++ IHAVEOPT ++ hs ++ export_reply size flags true) ≡ 152)
carried_new name hs size flags two = (
  ap length (sym (hello_name name)) ∙ length-append (hello (length name)) name ∙ rw (length_hello (length name)),
  length-append (NBDMAGIC ++ IHAVEOPT ++ hs) (export_reply size flags true) ∙ omega (arith, length-append (NBDMAGIC ++ IHAVEOPT) hs, reply_long size flags),
)

pub carried_old : (size flags : ℕ) → length (oldstyle_header size flags) ≡ 152
unfolding oldstyle_header be
carried_old size flags = refl

-- "Successful read with n > 0: 28 up, 16 + n down. Write with n > 0, failed ones too: 28 + n up, 16 down. Flush, and trim with n > 0: 28 up, 16 down"
pub carried_call : (d : Device) (c : Call) (m data' : List ℕ) → payload c ≤ length m → length data' ≡ wanted c
    → (length (request_bytes d c ++ take (payload c) m) ≡ 28 + payload c) × (length (simple_reply 0 0 ++ data') ≡ 16 + wanted c)
carried_call d c m data' fits e = (
  length-append (request_bytes d c) (take (payload c) m) ∙ rw (length_asks d c, length-take-le (payload c) m fits),
  length-append (simple_reply 0 0) data' ∙ rw (length_reply 0, e),
)
