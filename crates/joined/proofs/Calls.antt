-- The two machines talk through a call, and through all of them, as the plain disk says.
--   Spoken       a talk that leads to the next call, with these bytes up and down
--   call_talk    one call
--   calls_talk   all of them
use Prim.Native.Nat.{ℕ, zero, suc, min, ◌+◌, ◌-◌, ◌^◌, ◌≤◌, ◌<◌}
use mathlib.Core.Path.{◌≡◌, refl, sym, ap, ◌∙◌}
use mathlib.Core.Bool.{Bool, true, false}
use mathlib.Core.List.{List, [], ◌∷◌, ◌++◌, append-nil, append_assoc}
use Rattle.std.specs.Prelude.{Option, None, Some}
use native.Mathlib.Omega.{arith}
use borrow.Author.Tests.{ne_eqb, le-ltb}
use lib.Dec.{ltb}
use lib.ListN.{length, take, drop, length-append, length-drop}
use lib.Seq.{sets, sets-eq, length-take-le}
use Rattle.machine.specs.Choice.{pick}
use Rattle.machine.specs.Machine.{Turn, On, on, Moves}
use Rattle.machine.specs.Wires.{Talk, silent}
use Rattle.machine.proofs.Moves.{then}
use Rattle.machine.proofs.Bulk.{drops}
use Rattle.machine.proofs.Talking.{talk_then}
use Rattle.wire.specs.Constants.{NBD_CMD_READ, NBD_CMD_WRITE, NBD_CMD_FLUSH, NBD_CMD_TRIM}
use Rattle.wire.specs.Layouts.{simple_reply, request as request'}
use Rattle.wire.specs.declared.table.Export.{Export}
use Rattle.server.specs.Request.{owed}
use Rattle.server.specs.Session as server
use Rattle.server.specs.Exchanges.{Fits}
use Rattle.server.proofs.Session.{each_dropped}
use Rattle.server.proofs.Window.{stored}
use Rattle.server.proofs.Requests.{request_judged, whole_read, whole_write, whole_write_read_only, whole_flush, whole_trim}
use Rattle.client.specs.Calls.{payload, wanted, request_bytes, value_of, moved, positioned}
use Rattle.client.specs.Session.{Asking, Calling}
use Rattle.client.specs.declared.state.Device.{Device}
use Rattle.client.specs.declared.state.Call as request
use Rattle.client.specs.declared.state.Call.TheVariants.{Read, Write, Flush, Trim}
use Rattle.client.specs.declared.state.Outcome.TheVariants.{Succeeded, Failed}
use Rattle.client.proofs.Alone.{call_alone, call_fails}
use Rattle.joined.specs.Disk as plain
use Rattle.wire.specs.Results.{Result}
use Rattle.joined.specs.Disk.{Disk, here, Call, read, write, seek, flush, trim, read_result, write_result, trim_result, seek_result, result, read_after, write_after, seek_after, after, results, final}
use Rattle.joined.specs.Said.{if_sent, asking, question, answer, questions, answers}
use Rattle.joined.specs.Code.{result_of}
use Rattle.joined.proofs.Driver.{Driver, busy, over, granted, sought_at, going, next, drive}
use Rattle.joined.proofs.Driving.{follows}
use Rattle.joined.proofs.Parts.{talk_whole}
use Rattle.joined.proofs.Sent.{asks_sent}
use Rattle.joined.proofs.Agree.{Agrees, same_transfer, same_target, window_back, image_length, sets_window}

-- what a transfer grants
pub grants : (k : Disk) (n m : ℕ) → plain.transfer k n ≡ Some m → (m ≤ n) × (m < 2 ^ 32) × (0 < m → k.position + m ≤ length k.bytes)
grants k n m e = go (ltb (length k.bytes) k.position) refl e
  where
    go : (b : Bool) → ltb (length k.bytes) k.position ≡ b → pick b None (Some (min (min n (length k.bytes - k.position)) (2 ^ 32 - 1))) ≡ Some m
        → (m ≤ n) × (m < 2 ^ 32) × (0 < m → k.position + m ≤ length k.bytes)
    go true p q = absurd (let z : ◌≡◌ {A = ℕ} 0 1 = cc in omega arith)
    go false p q =
        let z : min (min n (length k.bytes - k.position)) (2 ^ 32 - 1) ≡ m = cc in
        (omega arith, omega arith, λ s. omega arith)

-- nothing behind the request, and nothing behind the reply
no_payload : {X : Type 0} {turn : X → Turn X} {x y : X} {is os : List ℕ} → Moves turn x is os y → Moves turn x (is ++ []) os y
no_payload {is = is} p = rw (append-nil is) p

no_data : {X : Type 0} {turn : X → Turn X} {x y : X} {is os : List ℕ} → Moves turn x is os y → Moves turn x is (os ++ []) y
no_data {os = os} p = rw (append-nil os) p

module _ (t : List ℕ) (e : Export) (front behind : List ℕ) (starts : length front ≡ e.start) (small : e.size < 2 ^ 64) where
  -- the server between two requests, with the disk's bytes in the window
  abbrev pub at : Disk → On server.State
  at k = on (server.Serving e (server.Header [])) (front ++ k.bytes ++ behind)

  pub record Spoken (x : Driver) (k : Disk) (ks : List Call) (rs : List Result) (k' : Disk) (us ds : List ℕ) : Type 0 where
    pub device : Device
    pub talk : Talk drive (server.turn t) us ds x (at k) (next device ks rs) (at k')
    pub agrees : Agrees e device k'

  -- ---- a call that is closed at once
  passed : (d : Device) (k : Disk) (ks : List Call) (rs : List Result) → Agrees e d k → Spoken (next d ks rs) k ks rs k [] []
  passed d k ks rs a = record { device = d; talk = silent; agrees = a }

  -- with another position
  passed_to : (d : Device) (k : Disk) (p : ℕ) (ks : List Call) (rs : List Result) → Agrees e d (plain.moved k p) → Spoken (next d ks rs) k ks rs (plain.moved k p) [] []
  passed_to d k p ks rs a = record { device = d; talk = silent; agrees = a }

  -- ---- a call that goes out
  module _ (d : Device) (k : Disk) (a : Agrees e d k) (ks : List Call) (rs : List Result) where
    abbrev img : List ℕ
    img = front ++ k.bytes ++ behind

    -- the driver with a call that goes out
    abbrev sends : request.Call → List ℕ → Driver
    sends c buf = busy (Calling d c (Asking 28)) buf ks rs

    inside : e.start + e.size ≤ length img
    inside = omega (arith, image_length front behind k.bytes, a.whole)

    well : (c : request.Call) (buf data' : List ℕ) {y : On server.State} (k' : Disk) → payload c ≤ length buf → length data' ≡ wanted c
        → Moves (server.turn t) (at k) (request_bytes d c ++ take (payload c) buf) [] y
        → Moves (server.turn t) (at k) (request_bytes d c ++ take (payload c) buf) (simple_reply 0 0 ++ data') (at k') → Agrees e (moved d c) k'
        → Spoken (sends c buf) k ks (rs ++ result_of (Succeeded (value_of c)) (sets buf 0 data') ∷ []) k' (request_bytes d c ++ take (payload c) buf) (simple_reply 0 0 ++ data')
    well c buf data' k' fits l p q b = record {
      device = moved d c;
      talk = talk_whole (follows ks rs (asks_sent d c buf fits)) (follows ks rs (call_alone d c buf fits data' l)) p q;
      agrees = b;
    }

    ill : (c : request.Call) (buf : List ℕ) {y : On server.State} (error : ℕ) → payload c ≤ length buf → error < 2 ^ 32 → (error ≡ 0 → ⊥)
        → Moves (server.turn t) (at k) (request_bytes d c ++ take (payload c) buf) [] y
        → Moves (server.turn t) (at k) (request_bytes d c ++ take (payload c) buf) (simple_reply error 0) (at k)
        → Spoken (sends c buf) k ks (rs ++ result_of (Failed error) buf ∷ []) k (request_bytes d c ++ take (payload c) buf) (simple_reply error 0)
    ill c buf error fits h ne p q = record {
      device = d;
      talk = talk_whole (follows ks rs (asks_sent d c buf fits)) (follows ks rs (call_fails d c buf fits error h ne)) p q;
      agrees = a;
    }

    -- the request, with the disk's position
    at_position : (type n : ℕ) → request' 0 type 0 d.position n ≡ asking type k n
    at_position type n = ap (λ (p : ℕ). request' 0 type 0 p n) a.same_position

    fields : (type n : ℕ) → type < 2 ^ 16 → n < 2 ^ 32 → 0 < n → k.position + n ≤ length k.bytes → Fits type 0 d.position n
    fields type n f h any g = record { type_fits = f; handle_fits = omega arith; offset_fits = omega (arith, a.same_position, a.whole); len_fits = h }

    -- ---- each call
    read_out : (buf : List ℕ) (n : ℕ) → n ≤ length buf → n < 2 ^ 32 → 0 < n → k.position + n ≤ length k.bytes
        → Spoken (sends (Read n (length buf)) buf) k ks (rs ++ read_result k buf (Some n) ∷ []) (read_after k (Some n)) (asking NBD_CMD_READ k n) (simple_reply 0 0 ++ here k n)
    read_out buf n below h any g =
        let c = Read n (length buf) in
        let data' = take n (drop d.position k.bytes) in
        let l : length data' ≡ n = length-take-le n (drop d.position k.bytes) (omega (arith, length-drop d.position k.bytes, a.same_position)) in
        let p = request_judged t img e 0 (fields NBD_CMD_READ n (omega arith) h any g) in
        let q = whole_read t img e 0 0 d.position (omega arith) (omega (arith, a.same_position, a.whole)) n h any (omega (arith, a.same_position, a.whole)) inside in
        let w : sets buf 0 data' ≡ here k n ++ drop n buf =
        sets-eq data' buf 0 (omega arith) ∙ (let z : 0 + length data' ≡ n = omega arith in rw (z, a.same_position)) in
        let u : request_bytes d c ++ [] ≡ asking NBD_CMD_READ k n = append-nil (request_bytes d c) ∙ at_position NBD_CMD_READ n in
        let v : data' ≡ here k n = ap (λ (p : ℕ). take n (drop p k.bytes)) a.same_position in
        rw (w, u, v) at
        (well c buf data' (read_after k (Some n)) (omega arith) l (no_payload p) (no_payload (rw (window_back front behind e k.bytes starts a.whole) at q))
        (record { same_size = a.same_size; same_position = ap (λ (x : ℕ). x + n) a.same_position; whole = a.whole; same_flag = a.same_flag }))

    module _ (buf : List ℕ) (n : ℕ) (below : n ≤ length buf) (h : n < 2 ^ 32) (any : 0 < n) (g : k.position + n ≤ length k.bytes) where
      abbrev pay : List ℕ
      pay = take n buf

      long : length pay ≡ n
      long = length-take-le n buf below

      not_none : n ≡ 0 → ⊥
      not_none z = omega arith

      write_out : k.read_only ≡ false
          → Spoken (sends (Write n (length buf)) buf) k ks (rs ++ result_of (Succeeded (value_of (Write n (length buf)))) buf ∷ []) (plain.stored k n buf)
          (asking NBD_CMD_WRITE k n ++ take n buf) (simple_reply 0 0)
      unfolding owed
      write_out w =
          let c = Write n (length buf) in
          let free = a.same_flag ∙ w in
          let o = le-ltb e.size (d.position + n) (omega (arith, a.same_position, a.whole)) in
          let p = rw (free, ne_eqb n 0 not_none, o) at (request_judged t img e 0 (fields NBD_CMD_WRITE n (omega arith) h any g)) in
          let p' = then p (stored t e 0 pay d.position n 0 (d.position + n) img (omega (arith, long)) (omega (arith, long))) in
          let inner : d.position + length pay ≤ e.size = omega (arith, long, a.same_position, a.whole) in
          let q = rw long at (whole_write t img e 0 0 d.position (omega arith) (omega (arith, small)) pay (omega (arith, long)) (omega (arith, long)) free inner) in
          let i : sets img (e.start + d.position) pay ≡ front ++ (plain.stored k n buf).bytes ++ behind =
          rw a.same_position (sets_window front behind k.bytes pay e.start k.position n starts long g) in
          let l : length (plain.stored k n buf).bytes ≡ length k.bytes =
          length-append (take k.position k.bytes ++ pay) (drop (k.position + n) k.bytes)
          ∙ omega (arith, length-append (take k.position k.bytes) pay, long, length-take-le k.position k.bytes (omega arith), length-drop (k.position + n) k.bytes) in
          rw (at_position NBD_CMD_WRITE n, append-nil (simple_reply 0 0)) at
          (well c buf [] (plain.stored k n buf) below refl p' (no_data (rw i at q))
          (record { same_size = a.same_size ∙ sym l; same_position = ap (λ (x : ℕ). x + n) a.same_position; whole = l ∙ a.whole; same_flag = a.same_flag }))

      write_refused : k.read_only ≡ true
          → Spoken (sends (Write n (length buf)) buf) k ks (rs ++ result_of (Failed 1) buf ∷ []) k (asking NBD_CMD_WRITE k n ++ take n buf) (simple_reply 1 0)
      unfolding owed
      write_refused w =
          let c = Write n (length buf) in
          let shut = a.same_flag ∙ w in
          let p = rw shut at (request_judged t img e 0 (fields NBD_CMD_WRITE n (omega arith) h any g)) in
          let p' = then p (drops (server.turn t) (server.dropping e 1 0) (each_dropped t e 1 0) pay n 0 img (omega (arith, long))) in
          let q = rw long at (whole_write_read_only t img e 0 0 d.position (omega arith) (omega (arith, a.same_position, a.whole)) pay (omega (arith, long)) shut) in
          rw (at_position NBD_CMD_WRITE n) at (ill c buf 1 below (omega arith) (λ z. omega arith) p' q)

    trim_out : (n : ℕ) → n < 2 ^ 32 → 0 < n → k.position + n ≤ length k.bytes
        → Spoken (sends (Trim n) []) k ks (rs ++ result_of (Failed 38) [] ∷ []) k (asking NBD_CMD_TRIM k n) (simple_reply 38 0)
    trim_out n h any g =
        let c = Trim n in
        let p = request_judged t img e 0 (fields NBD_CMD_TRIM n (omega arith) h any g) in
        let q = whole_trim t img e 0 0 d.position (omega arith) (omega (arith, a.same_position, a.whole)) n h in
        let u : request_bytes d c ++ [] ≡ asking NBD_CMD_TRIM k n = append-nil (request_bytes d c) ∙ at_position NBD_CMD_TRIM n in
        rw u at (ill c [] 38 (omega arith) (omega arith) (λ z. omega arith) (no_payload p) (no_payload q))

    flush_out : Spoken (sends Flush []) k ks (rs ++ result_of (Succeeded (value_of Flush)) [] ∷ []) k (request' 0 NBD_CMD_FLUSH 0 0 0) (simple_reply 0 0)
    flush_out =
        let c = Flush in
        let f : Fits NBD_CMD_FLUSH 0 0 0 = record { type_fits = omega arith; handle_fits = omega arith; offset_fits = omega arith; len_fits = omega arith } in
        let p = request_judged t img e 0 f in
        let q = whole_flush t img e 0 0 0 (omega arith) (omega arith) 0 (omega arith) in
        rw (append-nil (request_bytes d c), append-nil (simple_reply 0 0)) at (well c [] [] k (omega arith) refl (no_payload p) (no_payload (no_data q)) a)

    -- ---- by how many bytes are moved
    abbrev more : Device → List Result → Driver
    more d' rs' = next d' ks rs'

    read_by : (buf : List ℕ) (o : Option ℕ) → plain.transfer k (length buf) ≡ o
        → Spoken (going d (granted d (λ n. Read n (length buf)) o) buf ks rs more) k ks (rs ++ read_result k buf o ∷ []) (read_after k o)
        (if_sent o (asking NBD_CMD_READ k)) (if_sent o (λ n. simple_reply 0 0 ++ here k n))
    read_by buf None q = passed d k ks (rs ++ plain.refused 49 buf ∷ []) a
    read_by buf (Some zero) q =
        passed_to d k (k.position + 0) ks (rs ++ plain.succeeds (0 ∷ []) buf ∷ [])
        (record { same_size = a.same_size; same_position = omega (arith, a.same_position); whole = a.whole; same_flag = a.same_flag })
    read_by buf (Some (suc n)) q =
        let g = grants k (length buf) (suc n) q in
        rw (ne_eqb (suc n) 0 (λ z. omega arith)) (read_out buf (suc n) g.0 g.1 (omega arith) (g.2 (omega arith)))

    write_by : (buf : List ℕ) (o : Option ℕ) → plain.transfer k (length buf) ≡ o
        → Spoken (going d (granted d (λ n. Write n (length buf)) o) buf ks rs more) k ks (rs ++ write_result k buf o ∷ []) (write_after k buf o)
        (if_sent o (λ n. asking NBD_CMD_WRITE k n ++ take n buf)) (if_sent o (λ n. simple_reply (pick k.read_only 1 0) 0))
    write_by buf None q = passed d k ks (rs ++ plain.refused 49 buf ∷ []) a
    write_by buf (Some zero) q = passed d k ks (rs ++ plain.succeeds (0 ∷ []) buf ∷ []) a
    write_by buf (Some (suc n)) q = rw (ne_eqb (suc n) 0 (λ z. omega arith)) (go k.read_only refl)
      where
        go : (b : Bool) → k.read_only ≡ b
            → Spoken (sends (Write (suc n) (length buf)) buf) k ks (rs ++ pick b (plain.fails 1 buf) (plain.succeeds (suc n ∷ []) buf) ∷ []) (pick b k (plain.stored k (suc n) buf))
            (asking NBD_CMD_WRITE k (suc n) ++ take (suc n) buf) (simple_reply (pick b 1 0) 0)
        go true w = let g = grants k (length buf) (suc n) q in write_refused buf (suc n) g.0 g.1 (omega arith) (g.2 (omega arith)) w
        go false w = let g = grants k (length buf) (suc n) q in write_out buf (suc n) g.0 g.1 (omega arith) (g.2 (omega arith)) w

    trim_by : (len : ℕ) (o : Option ℕ) → plain.transfer k len ≡ o
        → Spoken (going d (granted d Trim o) [] ks rs more) k ks (rs ++ trim_result o ∷ []) k (if_sent o (asking NBD_CMD_TRIM k)) (if_sent o (λ n. simple_reply 38 0))
    trim_by len None q = passed d k ks (rs ++ plain.refused 49 [] ∷ []) a
    trim_by len (Some zero) q = passed d k ks (rs ++ plain.succeeds [] [] ∷ []) a
    trim_by len (Some (suc n)) q =
        let g = grants k len (suc n) q in
        rw (ne_eqb (suc n) 0 (λ z. omega arith)) (trim_out (suc n) g.1 (omega arith) (g.2 (omega arith)))

    seek_by : (o : Option ℕ) → Spoken (going d (sought_at d o) [] ks rs more) k ks (rs ++ seek_result o ∷ []) (seek_after k o) [] []
    seek_by None = passed d k ks (rs ++ plain.refused 48 [] ∷ []) a
    seek_by (Some p) =
        passed_to (positioned d p) k p ks (rs ++ plain.succeeds (p ∷ []) [] ∷ [])
        (record { same_size = a.same_size; same_position = refl; whole = a.whole; same_flag = a.same_flag })

    -- ---- one call
    pub call_talk : (c : Call) → Spoken (next d (c ∷ ks) rs) k ks (rs ++ result k c ∷ []) (after k c) (question k c) (answer k c)
    call_talk (read buf) =
        let f : ℕ → request.Call = λ n. Read n (length buf) in
        rw (ap (λ (o : Option ℕ). going d (granted d f o) buf ks rs more) (same_transfer a (length buf))) (read_by buf (plain.transfer k (length buf)) refl)
    call_talk (write buf) =
        let f : ℕ → request.Call = λ n. Write n (length buf) in
        rw (ap (λ (o : Option ℕ). going d (granted d f o) buf ks rs more) (same_transfer a (length buf))) (write_by buf (plain.transfer k (length buf)) refl)
    call_talk (seek f) = rw (ap (λ (o : Option ℕ). going d (sought_at d o) [] ks rs more) (same_target a f)) (seek_by (plain.target k f))
    call_talk flush = flush_out
    call_talk (trim n) = rw (ap (λ (o : Option ℕ). going d (granted d Trim o) [] ks rs more) (same_transfer a n)) (trim_by n (plain.transfer k n) refl)

  -- ---- all of them
  pub record Told (x : Driver) (k : Disk) (rs : List Result) (k' : Disk) (us ds : List ℕ) : Type 0 where
    pub talk : Talk drive (server.turn t) us ds x (at k) (over rs) (at k')
    pub whole : length k'.bytes ≡ e.size

  pub calls_talk : (ks : List Call) (d : Device) (k : Disk) (rs : List Result) → Agrees e d k
      → Told (next d ks rs) k (rs ++ results k ks) (final k ks) (questions k ks) (answers k ks)
  calls_talk [] d k rs a = record { talk = rw (append-nil rs) silent; whole = a.whole }
  calls_talk (c ∷ ks) d k rs a =
      let s = call_talk d k a ks rs c in
      let i = calls_talk ks s.device (after k c) (rs ++ result k c ∷ []) s.agrees in
      record { talk = rw (append_assoc rs (result k c ∷ []) (results (after k c) ks)) at (talk_then s.talk i.talk); whole = i.whole }
