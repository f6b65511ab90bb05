-- A whole request in one piece, and exactly the reply that the protocol has for it (01, "Server on the wire"). Each law says: from the place before a
-- request, the bytes of the request and its payload are taken, these bytes are given, and there the session stands, with this image.
--   request_judged   a request's 28 bytes are taken, and what it is owed begins
--   whole_..         each request
use Prim.Native.Nat.{ℕ, ◌+◌, ◌^◌, ◌≤◌, ◌<◌}
use mathlib.Core.Path.{◌≡◌, refl}
use mathlib.Core.Bool.{true, false}
use mathlib.Core.List.{List, [], ◌++◌}
use mathlib.Core.Logic.{inl, inr}
use native.Mathlib.Omega.{arith}
use borrow.Author.Tests.{ne_eqb, lt-ltb, le-ltb}
use lib.Dec.{eqb}
use lib.ListN.{length, take, drop}
use lib.Seq.{sets}
use Rattle.machine.specs.Machine.{on, Moves}
use Rattle.machine.proofs.Moves.{then}
use Rattle.wire.specs.Fields.{be, number}
use Rattle.wire.specs.Constants.{NBD_REQUEST_MAGIC, NBD_CMD_READ, NBD_CMD_WRITE, NBD_CMD_DISC, NBD_CMD_FLUSH, NBD_CMD_TRIM, NBD_CMD_WRITE_ZEROES, NBD_EPERM, NBD_EINVAL, NBD_ENOSPC, NBD_ENOSYS}
use Rattle.wire.specs.Layouts.{request, simple_reply}
use Rattle.wire.specs.Table.{read_only}
use Rattle.wire.specs.declared.table.Export.{Export}
use Rattle.wire.proofs.BigEndian.{number_be}
use Rattle.server.specs.Request.{request_of, owed}
use Rattle.server.specs.Session.{State, Header, Serving, Over, window, begun, requested, turn}
use Rattle.server.specs.Exchanges.{UnknownType, asked, Fits}
use Rattle.server.specs.declared.ending.Ending.TheVariants.{Disconnected, UnknownRequest}
use Rattle.server.specs.declared.request.Answer.{Answer}
use Rattle.server.specs.declared.request.Answer.TheVariants.{Silence, Reply, Data, Store, Swallow, End}
use Rattle.server.proofs.Header.{each_request, quiet_request}
use Rattle.server.proofs.Window.{window_length}
use Rattle.server.proofs.Whole.{and_gives, gather_whole, reply_given, data_given}
use Rattle.server.proofs.Writes.{payload_dropped, payload_stored}

fields_read : (flags : ℕ) {type handle offset len : ℕ} → Fits type handle offset len → request_of (request flags type handle offset len) ≡ asked type handle offset len
unfolding request be
fields_read flags {type} {handle} {offset} {len} f =
    rw (number_be 2 type f.type_fits, number_be 8 handle f.handle_fits, number_be 8 offset f.offset_fits, number_be 4 len f.len_fits)

module _ (t m : List ℕ) (e : Export) where
  abbrev ready : State
  ready = Serving e (Header [])

  magic_taken : Moves (turn t) (on ready m) (be 4 NBD_REQUEST_MAGIC) [] (on (Serving e (Header (be 4 NBD_REQUEST_MAGIC))) m)
  unfolding requested be number
  magic_taken = gather_whole t m (λ got. Serving e (Header got)) (requested e) 4 (each_request t e m) [] (be 4 NBD_REQUEST_MAGIC) (quiet_request t e 0) (omega arith) (omega arith)

  pub request_judged : (flags : ℕ) {type handle offset len : ℕ} → Fits type handle offset len
      → Moves (turn t) (on ready m) (request flags type handle offset len) [] (on (begun e (asked type handle offset len) (owed e (asked type handle offset len))) m)
  unfolding request requested be
  request_judged flags {type} {handle} {offset} {len} f =
      let magic = be 4 NBD_REQUEST_MAGIC in
      let rest = drop 4 (request flags type handle offset len) in
      let more = gather_whole t m (λ got. Serving e (Header got)) (requested e) 28 (each_request t e m) magic rest (quiet_request t e 4) (omega arith) (omega arith) in
      rw (← fields_read flags f) (then magic_taken more)

  -- the answer that the request is owed
  owed_begins : (flags : ℕ) {type handle offset len : ℕ} → Fits type handle offset len → (a : Answer) → owed e (asked type handle offset len) ≡ a
      → Moves (turn t) (on ready m) (request flags type handle offset len) [] (on (begun e (asked type handle offset len) a) m)
  owed_begins flags f a h = rw h at (request_judged flags f)

  -- ---- four bytes that are not the magic
  pub whole_other_magic : (h : List ℕ) → length h ≡ 4 → (number h ≡ NBD_REQUEST_MAGIC → ⊥) → Moves (turn t) (on ready m) h [] (on (Over 10) m)
  unfolding requested
  whole_other_magic h l n =
      rw (l, ne_eqb (number h) NBD_REQUEST_MAGIC n) at (gather_whole t m (λ got. Serving e (Header got)) (requested e) 4 (each_request t e m) [] h (quiet_request t e 0) (omega arith) (omega arith))

  module _ (flags handle offset : ℕ) (handle_fits : handle < 2 ^ 64) (offset_fits : offset < 2 ^ 64) where
    fields : {type len : ℕ} → type < 2 ^ 16 → len < 2 ^ 32 → Fits type handle offset len
    fields a b = record { type_fits = a; handle_fits = handle_fits; offset_fits = offset_fits; len_fits = b }

    -- ---- READ: "length 0 gets no reply, at any offset. Past the window: error 22, no data. Else reply 0 and the data."
    pub whole_read_nothing : Moves (turn t) (on ready m) (request flags NBD_CMD_READ handle offset 0) [] (on ready m)
    unfolding owed
    whole_read_nothing = owed_begins flags (fields (omega arith) (omega arith)) Silence refl

    module _ (len : ℕ) (len_fits : len < 2 ^ 32) (some : 0 < len) where
      some_length : eqb len 0 ≡ false
      some_length = ne_eqb len 0 (λ z. omega arith)

      pub whole_read_past : e.size < offset + len → Moves (turn t) (on ready m) (request flags NBD_CMD_READ handle offset len) (simple_reply NBD_EINVAL handle) (on ready m)
      unfolding owed
      whole_read_past h =
          and_gives t (owed_begins flags (fields (omega arith) len_fits) (Reply NBD_EINVAL) (rw (some_length, lt-ltb e.size (offset + len) h))) (reply_given t m e NBD_EINVAL handle 0 0)

      pub whole_read : offset + len ≤ e.size → e.start + e.size ≤ length m
          → Moves (turn t) (on ready m) (request flags NBD_CMD_READ handle offset len) (simple_reply 0 handle ++ take len (drop offset (window e m))) (on ready m)
      unfolding owed
      whole_read h inside =
          and_gives t (owed_begins flags (fields (omega arith) len_fits) Data (rw (some_length, le-ltb e.size (offset + len) h)))
          (then (reply_given t m e 0 handle offset len) (data_given t m e offset len (rw (window_length e m inside) h)))

    -- ---- WRITE: "on a read-only export error 1; else length 0 gives 0; else past the window error 28. The whole payload is taken before any reply."
    pub whole_write_nothing : read_only e.flags ≡ false → Moves (turn t) (on ready m) (request flags NBD_CMD_WRITE handle offset 0) (simple_reply 0 handle) (on ready m)
    unfolding owed
    whole_write_nothing w = and_gives t (owed_begins flags (fields (omega arith) (omega arith)) (Reply 0) (rw w)) (reply_given t m e 0 handle 0 0)

    module _ (payload : List ℕ) (len_fits : length payload < 2 ^ 32) where
      pub whole_write_read_only : read_only e.flags ≡ true
          → Moves (turn t) (on ready m) (request flags NBD_CMD_WRITE handle offset (length payload) ++ payload) (simple_reply NBD_EPERM handle) (on ready m)
      unfolding owed
      whole_write_read_only w = then (owed_begins flags (fields (omega arith) len_fits) (Swallow NBD_EPERM) (rw w)) (payload_dropped t m e NBD_EPERM handle payload)

      module _ (some : 0 < length payload) (writable : read_only e.flags ≡ false) where
        pub whole_write_past : e.size < offset + length payload
            → Moves (turn t) (on ready m) (request flags NBD_CMD_WRITE handle offset (length payload) ++ payload) (simple_reply NBD_ENOSPC handle) (on ready m)
        unfolding owed
        whole_write_past h =
            then (owed_begins flags (fields (omega arith) len_fits) (Swallow NBD_ENOSPC) (rw (writable, some_length (length payload) len_fits some, lt-ltb e.size (offset + length payload) h)))
            (payload_dropped t m e NBD_ENOSPC handle payload)

        pub whole_write : offset + length payload ≤ e.size
            → Moves (turn t) (on ready m) (request flags NBD_CMD_WRITE handle offset (length payload) ++ payload) (simple_reply 0 handle) (on ready (sets m (e.start + offset) payload))
        unfolding owed
        whole_write h =
            then (owed_begins flags (fields (omega arith) len_fits) Store (rw (writable, some_length (length payload) len_fits some, le-ltb e.size (offset + length payload) h)))
            (payload_stored t m e handle offset payload)

    -- ---- the others: "DISC 2 ends well (0). FLUSH 3 replies 0. TRIM 4 and WRITE_ZEROES 6 reply 38. Others end 11."
    module _ (len : ℕ) (len_fits : len < 2 ^ 32) where
      pub whole_disc : Moves (turn t) (on ready m) (request flags NBD_CMD_DISC handle offset len) [] (on (Over 0) m)
      unfolding owed
      whole_disc = owed_begins flags (fields (omega arith) len_fits) (End Disconnected) refl

      pub whole_flush : Moves (turn t) (on ready m) (request flags NBD_CMD_FLUSH handle offset len) (simple_reply 0 handle) (on ready m)
      unfolding owed
      whole_flush = and_gives t (owed_begins flags (fields (omega arith) len_fits) (Reply 0) refl) (reply_given t m e 0 handle 0 0)

      pub whole_trim : Moves (turn t) (on ready m) (request flags NBD_CMD_TRIM handle offset len) (simple_reply NBD_ENOSYS handle) (on ready m)
      unfolding owed
      whole_trim = and_gives t (owed_begins flags (fields (omega arith) len_fits) (Reply NBD_ENOSYS) refl) (reply_given t m e NBD_ENOSYS handle 0 0)

      pub whole_write_zeroes : Moves (turn t) (on ready m) (request flags NBD_CMD_WRITE_ZEROES handle offset len) (simple_reply NBD_ENOSYS handle) (on ready m)
      unfolding owed
      whole_write_zeroes = and_gives t (owed_begins flags (fields (omega arith) len_fits) (Reply NBD_ENOSYS) refl) (reply_given t m e NBD_ENOSYS handle 0 0)

      ends : (type : ℕ) → UnknownType type → owed e (asked type handle offset len) ≡ End UnknownRequest
      unfolding owed
      ends type (inl h) = rw h
      ends type (inr h) =
          rw (
            ne_eqb type 0 (λ z. omega arith),
            ne_eqb type 1 (λ z. omega arith),
            ne_eqb type 2 (λ z. omega arith),
            ne_eqb type 3 (λ z. omega arith),
            ne_eqb type 4 (λ z. omega arith),
            ne_eqb type 6 (λ z. omega arith),
          )

      pub whole_unknown_request : (type : ℕ) → type < 2 ^ 16 → UnknownType type → Moves (turn t) (on ready m) (request flags type handle offset len) [] (on (Over 11) m)
      whole_unknown_request type fits u = owed_begins flags (fields fits len_fits) (End UnknownRequest) (ends type u)
