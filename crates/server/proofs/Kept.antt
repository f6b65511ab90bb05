-- What each turn keeps: the image's length, and that a step would not be refused.
--   picked                  what is picked has what both have
--   kept_good, still_good, next_good, lasts   a state that a step accepts leads to such states, with the same table and an image as long
use Prim.Native.Nat.{ℕ, zero, suc, ◌+◌, ◌≤◌, ◌<◌}
use mathlib.Core.Path.{◌≡◌, refl, ◌∙◌}
use mathlib.Core.Bool.{Bool, true, false, not}
use mathlib.Core.List.{List, [], ◌∷◌, ◌++◌}
use Rattle.std.specs.Prelude.{Option, None, Some}
use native.Mathlib.Omega.{arith}
use borrow.Author.Tests.{not-true, leb-true, le-leb, lt-ltb, eqb-true, eq-eqb, ne_eqb, ltb-false}
use lib.Dec.{eqb, leb, ltb}
use lib.ListN.{length, length-set}
use Rattle.machine.specs.Choice.{pick, between}
use Rattle.machine.specs.Machine.{On, on, Keeps, Moves}
use Rattle.machine.specs.Parts.{less}
use Rattle.machine.specs.Inner.{Lasts}
use Rattle.machine.proofs.Moves.{kept}
use Rattle.wire.specs.Fields.{number, field, same_bytes}
use Rattle.wire.specs.Constants.{IHAVEOPT, NBD_REQUEST_MAGIC}
use Rattle.wire.specs.Utf8.{whole}
use Rattle.wire.specs.Table.{fault, read_only, records}
use Rattle.wire.specs.Lookup.{chosen}
use Rattle.wire.specs.declared.utf8.Utf8.{Utf8}
use Rattle.wire.specs.declared.table.Export.{Export}
use Rattle.wire.proofs.Tests.{both_true, both_left, both_right}
use Rattle.wire.proofs.Found.{length_started, length_narrowed}
use Rattle.server.specs.Request.{request_of, past, owed_read, owed_write, owed}
use Rattle.server.specs.Session.{Handshake, Greeting, ClientFlags, OptionHead, Naming, Passing, Listing, Declining, Aborting, Exporting}
use Rattle.server.specs.Session.{Transmission, Header, Storing, Dropping, Replying, Sending, State, Shaking, Serving, Over}
use Rattle.server.specs.Session.{greeted, listing, declining, aborting, exporting, judge_flags, answered, passing, reply_length, found, named, naming, payload, judge_option}
use Rattle.server.specs.Session.{sending, replying, storing, dropping, begun, requested, turn}
use Rattle.server.specs.Ranges.{ranged, unsupported, part, ranged_serving, replied, behind, loan_fault, window_fault}
use Rattle.server.specs.Inner.{Good}
use Rattle.server.specs.declared.request.Request.{Request}
use Rattle.server.specs.declared.request.Answer.{Answer}
use Rattle.server.proofs.Bounds.{between_true, some_within, passing_bounds, declining_bounds, exporting_bounds, storing_bounds, replying_bounds, good_serving}
use Rattle.server.proofs.Records.{first_none, accepted_at}

-- what is picked has what both have
pub picked : {A : Type 0} (P : A → Type 0) (b : Bool) {x y : A} → (b ≡ true → P x) → (b ≡ false → P y) → P (pick b x y)
picked P true f g = f refl
picked P false f g = g refl

is_between : (lo hi n : ℕ) → lo ≤ n → n ≤ hi → between lo hi n ≡ true
is_between lo hi n p q = both_true (le-leb lo n p) (le-leb n hi q)

refused_replied : (b : Bool) → replied (pick b 1 28) ≡ true
refused_replied true = refl
refused_replied false = refl

negated : {b : Bool} → b ≡ false → not b ≡ true
negated e = rw e

module _ (t : List ℕ) (n : ℕ) where
  abbrev G : State → Type 0
  G = Good t n

  over : (k : ℕ) → k ≤ 12 → G (Over k)
  over k h = record { within = le-leb k 12 h; fits = refl }

  -- ---- the handshake: the table is sound
  module _ (sound : fault n t ≡ 0) where
    shaking : {p : Handshake} → ranged (Shaking p) ≡ true → loan_fault t n (Shaking p) ≡ 0 → G (Shaking p)
    shaking a b = record { within = a; fits = b }

    greeted_good : (left : ℕ) → left ≤ 18 → G (greeted left)
    greeted_good zero h = shaking refl (rw sound)
    greeted_good (suc left) h = shaking (is_between 1 18 (suc left) (omega arith) h) (rw sound)

    option_good : (z : Bool) → G (Shaking (OptionHead z []))
    option_good z = shaking refl (rw sound)

    listing_good : (z : Bool) (left : ℕ) → left ≤ 51 → G (listing z left)
    listing_good z zero h = option_good z
    listing_good z (suc left) h = shaking (is_between 1 51 (suc left) (omega arith) h) (rw sound)

    declining_good : (z : Bool) (option left : ℕ) → unsupported option ≡ true → left ≤ 20 → G (declining z option left)
    declining_good z option zero u h = option_good z
    declining_good z option (suc left) u h = shaking (both_true u (is_between 1 20 (suc left) (omega arith) h)) (rw sound)

    aborting_good : (left : ℕ) → left ≤ 20 → G (aborting left)
    aborting_good zero h = over 7 (omega arith)
    aborting_good (suc left) h = shaking (is_between 1 20 (suc left) (omega arith) h) (rw sound)

    exporting_good : (z : Bool) (e : Export) (left : ℕ) → ltb e.flags 16 ≡ true → window_fault n e ≡ 0 → left ≤ reply_length z → G (exporting z e left)
    exporting_good z e zero k o h = record { within = both_true k refl; fits = o }
    exporting_good z e (suc left) k o h = shaking (both_true k (is_between 1 (reply_length z) (suc left) (omega arith) h)) (rw (sound, o))

    flagged_good : (h : List ℕ) → G (judge_flags h)
    unfolding judge_flags
    flagged_good h =
        picked G (ltb (length h) 4) (λ e. shaking e (rw sound))
        λ _. picked G (eqb (number h) 1) (λ _. option_good true) λ _. picked G (eqb (number h) 3) (λ _. option_good false) λ _. over 1 (omega arith)

    declined_good : (z : Bool) (option k : ℕ) → unsupported k ≡ true → eqb option k ≡ true → G (Shaking (Declining z option 20))
    declined_good z option k u e = declining_good z option 20 (rw (eqb-true option k e) u) (omega arith)

    answered_good : (z : Bool) (option len : ℕ) → G (answered z option len)
    unfolding answered
    answered_good z option len =
        picked G (eqb option 2) (λ _. aborting_good 20 (omega arith))
        λ _. picked G (eqb option 3) (λ _. picked G (eqb len 0) (λ _. listing_good z 51 (omega arith)) (λ _. over 4 (omega arith)))
        λ _. picked G (eqb option 5) (λ _. over 8 (omega arith))
        λ _. picked G (eqb option 6) (declined_good z option 6 refl)
        λ _. picked G (eqb option 7) (declined_good z option 7 refl)
        λ _. picked G (eqb option 8) (declined_good z option 8 refl)
        λ _. picked G (eqb option 11) (declined_good z option 11 refl)
        λ _. over 9 (omega arith)

    passing_good : (z : Bool) (option len left : ℕ) → eqb option 1 ≡ false → left ≤ len → len ≤ 100000 → G (passing z option len left)
    passing_good z option len zero e h k = answered_good z option len
    passing_good z option len (suc left) e h k =
        shaking (both_true (negated e) (both_true (is_between 1 len (suc left) (omega arith) h) (le-leb len 100000 k))) (rw sound)

    whole_reply : (z : Bool) → between 1 (reply_length z) (reply_length z) ≡ true
    whole_reply true = refl
    whole_reply false = refl

    found_good : (z : Bool) (o : Option ℕ) → G (found z t o)
    found_good z None = over 6 (omega arith)
    found_good z (Some k) =
        let a = accepted_at n t sound k in
        shaking (both_true a.0 (whole_reply z)) (rw (sound, a.1))

    named_good : (z : Bool) (fits : List Bool) (text : Utf8) → G (named z t fits text)
    unfolding named
    named_good z fits text = picked G (whole text) (λ _. found_good z (chosen fits)) λ _. over 5 (omega arith)

    naming_good : (z : Bool) (fits : List Bool) (text : Utf8) (at left : ℕ) → length fits ≡ 32 → at + left ≤ 100000 → G (naming z t fits text at left)
    naming_good z fits text at zero k h = named_good z fits text
    naming_good z fits text at (suc left) k h =
        shaking (both_true (eq-eqb (length fits) 32 k) (both_true (lt-ltb 0 (suc left) (omega arith)) (le-leb (at + suc left) 100000 h))) (rw sound)

    payload_good : (z : Bool) (option len : ℕ) → G (payload z t option len)
    unfolding payload
    payload_good z option len =
        picked G (leb len 100000)
        (λ h. picked G (eqb option 1) (λ _. naming_good z _ _ 0 len (length_started (records t) len) (omega (arith, leb-true len 100000 h))) λ e. passing_good z option len len e (omega arith) (leb-true len 100000 h))
        λ _. over 3 (omega arith)

    opted_good : (z : Bool) (h : List ℕ) → G (judge_option z t h)
    unfolding judge_option
    opted_good z h =
        picked G (eqb (length h) 8)
        (λ e. picked G (same_bytes h IHAVEOPT) (λ _. shaking (rw (eqb-true (length h) 8 e)) (rw sound)) λ _. over 2 (omega arith))
        λ _. picked G (ltb (length h) 16) (λ e. shaking e (rw sound)) λ _. payload_good z (field h 8 4) (field h 12 4)

  -- ---- the transmission
  module _ (e : Export) (known : ltb e.flags 16 ≡ true) (in_image : window_fault n e ≡ 0) where
    serving : {p : Transmission} → ranged_serving e p ≡ true → G (Serving e p)
    serving a = record { within = both_true known a; fits = in_image }

    sending_good : (off left : ℕ) → off + left ≤ e.size → G (sending e off left)
    sending_good off zero h = serving refl
    sending_good off (suc left) h = serving (both_true (lt-ltb 0 (suc left) (omega arith)) (le-leb (off + suc left) e.size h))

    behind_fits : (error off len : ℕ) → behind e error off len ≡ true → G (sending e off len)
    behind_fits error off zero h = serving refl
    behind_fits error off (suc len) h =
        let b = rw (ne_eqb (suc len) 0 (λ z. omega arith)) at h in
        sending_good off (suc len) (leb-true (off + suc len) e.size (both_right (eqb error 0) (leb (off + suc len) e.size) b))

    replying_good : (error handle left off len : ℕ) → left ≤ 16 → behind e error off len ≡ true → G (replying e error handle left off len)
    replying_good error handle zero off len h b = behind_fits error off len b
    replying_good error handle (suc left) off len h b = serving (both_true (is_between 1 16 (suc left) (omega arith) h) b)

    answering_good : (error handle : ℕ) → replied error ≡ true → G (replying e error handle 16 0 0)
    answering_good error handle r = replying_good error handle 16 0 0 (omega arith) r

    storing_good : (handle off left : ℕ) → read_only e.flags ≡ false → off + left ≤ e.size → G (storing e handle off left)
    storing_good handle off zero w h = answering_good 0 handle refl
    storing_good handle off (suc left) w h =
        serving (both_true (negated w) (both_true (lt-ltb 0 (suc left) (omega arith)) (le-leb (off + suc left) e.size h)))

    dropping_good : (error handle left : ℕ) → replied error ≡ true → error ≡ pick (read_only e.flags) 1 28 → G (dropping e error handle left)
    dropping_good error handle zero r w = answering_good error handle r
    dropping_good error handle (suc left) r w = serving (both_true (eq-eqb error _ w) (lt-ltb 0 (suc left) (omega arith)))

    module _ (r : Request) where
      abbrev Q : Answer → Type 0
      Q a = G (begun e r a)

      fits_size : past e r ≡ false → r.offset + r.len ≤ e.size
      fits_size f = ltb-false e.size (r.offset + r.len) f

      data_good : eqb r.len 0 ≡ false → past e r ≡ false → G (Serving e (Replying 0 r.handle 16 r.offset r.len))
      data_good z f = replying_good 0 r.handle 16 r.offset r.len (omega arith) (rw z (both_true refl (le-leb (r.offset + r.len) e.size (fits_size f))))

      read_good : Q (owed_read e r)
      read_good =
          picked Q (eqb r.len 0) (λ _. serving refl)
          λ z. picked Q (past e r) (λ _. answering_good 22 r.handle refl) λ f. data_good z f

      write_good : Q (owed_write e r)
      write_good =
          picked Q (read_only e.flags) (λ w. dropping_good 1 r.handle r.len refl (rw w))
          λ w. picked Q (eqb r.len 0) (λ _. answering_good 0 r.handle refl)
          λ _. picked Q (past e r) (λ _. dropping_good 28 r.handle r.len refl (rw w)) λ f. storing_good r.handle r.offset r.len w (fits_size f)

      owed_good : Q (owed e r)
      unfolding owed
      owed_good =
          picked Q (eqb r.typ 0) (λ _. read_good)
          λ _. picked Q (eqb r.typ 1) (λ _. write_good)
          λ _. picked Q (eqb r.typ 2) (λ _. over 0 (omega arith))
          λ _. picked Q (eqb r.typ 3) (λ _. answering_good 0 r.handle refl)
          λ _. picked Q (eqb r.typ 4) (λ _. answering_good 38 r.handle refl)
          λ _. picked Q (eqb r.typ 6) (λ _. answering_good 38 r.handle refl) λ _. over 11 (omega arith)

    requested_good : (h : List ℕ) → G (requested e h)
    unfolding requested
    requested_good h =
        picked G (eqb (length h) 4)
        (λ q. picked G (eqb (number h) NBD_REQUEST_MAGIC) (λ _. serving (rw (eqb-true (length h) 4 q))) λ _. over 10 (omega arith))
        λ _. picked G (ltb (length h) 28) (λ q. serving q) λ _. owed_good (request_of h)

-- ---- each turn
less_le : (l k : ℕ) → l ≤ k → less l ≤ k
less_le zero k h = h
less_le (suc l) k h = omega arith

less_fits : (off left k : ℕ) → 0 < left → off + left ≤ k → suc off + less left ≤ k
less_fits off zero k s h = absurd (omega arith)
less_fits off (suc left) k s h = omega arith

module _ (t : List ℕ) (n : ℕ) where
  unfoldable pub Stands : On State → Type 0
  Stands (on x m) = (length m ≡ n) × Good t n x

  table_sound : {p : Handshake} → Good t n (Shaking p) → fault n t ≡ 0
  table_sound g = (first_none (fault n t) _ g.fits).0

  known_flags : {e : Export} {p : Transmission} → Good t n (Serving e p) → ltb e.flags 16 ≡ true
  known_flags {e} {p} g = both_left (ltb e.flags 16) (ranged_serving e p) g.within

  pub kept_good : Keeps (turn t) Stands
  unfolding Stands
  kept_good (on (Shaking (Greeting left)) m) h =
      (h.0, greeted_good t n (table_sound h.1) (less left) (less_le left 18 (between_true 1 18 left h.1.within).1))
  kept_good (on (Shaking (ClientFlags got)) m) h = λ b. (h.0, flagged_good t n (table_sound h.1) (got ++ b ∷ []))
  kept_good (on (Shaking (OptionHead z got)) m) h = λ b. (h.0, opted_good t n (table_sound h.1) z (got ++ b ∷ []))
  kept_good (on (Shaking (Naming z fits text at left)) m) h =
      let k = eqb-true (length fits) 32 (both_left (eqb (length fits) 32) _ h.1.within) in
      let s = some_within at left 100000 (both_right (eqb (length fits) 32) _ h.1.within) in
      λ b. (h.0, naming_good t n (table_sound h.1) z _ _ (suc at) (less left) (length_narrowed (records t) at (b ∷ []) fits ∙ k) (less_fits at left 100000 s.0 s.1))
  kept_good (on (Shaking (Passing z option len left)) m) h =
      let a = passing_bounds option len left h.1.within in
      λ _. (h.0, passing_good t n (table_sound h.1) z option len (less left) a.0 (less_le left len a.1) a.2)
  kept_good (on (Shaking (Listing z left)) m) h =
      (h.0, listing_good t n (table_sound h.1) z (less left) (less_le left 51 (between_true 1 51 left h.1.within).1))
  kept_good (on (Shaking (Declining z option left)) m) h =
      let u = both_left (unsupported option) (between 1 20 left) h.1.within in
      (h.0, declining_good t n (table_sound h.1) z option (less left) u (less_le left 20 (declining_bounds option left h.1.within).1))
  kept_good (on (Shaking (Aborting left)) m) h =
      (h.0, aborting_good t n (table_sound h.1) (less left) (less_le left 20 (between_true 1 20 left h.1.within).1))
  kept_good (on (Shaking (Exporting z e left)) m) h =
      let k = both_left (ltb e.flags 16) (between 1 (reply_length z) left) h.1.within in
      let b = exporting_bounds e.flags (reply_length z) left h.1.within in
      (h.0, exporting_good t n (table_sound h.1) z e (less left) k (first_none (fault n t) (window_fault n e) h.1.fits).1 (less_le left (reply_length z) b.1))
  kept_good (on (Serving e (Header got)) m) h = λ b. (h.0, requested_good t n e (known_flags h.1) h.1.fits (got ++ b ∷ []))
  kept_good (on (Serving e (Storing handle off left)) m) h =
      let g = (good_serving h.1).0 in
      let b = storing_bounds e off left g in
      let w = not-true (read_only e.flags) (both_left (not (read_only e.flags)) (part e off left) g) in
      λ x. (length-set m (e.start + off) x ∙ h.0, storing_good t n e (known_flags h.1) h.1.fits handle (suc off) (less left) w (less_fits off left e.size b.0 b.1))
  kept_good (on (Serving e (Dropping error handle left)) m) h =
      let g = (good_serving h.1).0 in
      let w = eqb-true error _ (both_left (eqb error (pick (read_only e.flags) 1 28)) (ltb 0 left) g) in
      λ _. (h.0, dropping_good t n e (known_flags h.1) h.1.fits error handle (less left) (rw w (refused_replied (read_only e.flags))) w)
  kept_good (on (Serving e (Replying error handle left off len)) m) h =
      let g = (good_serving h.1).0 in
      let b = replying_bounds e error left off len g in
      (h.0, replying_good t n e (known_flags h.1) h.1.fits error handle (less left) off len (less_le left 16 b.1) (both_right (between 1 16 left) (behind e error off len) g))
  kept_good (on (Serving e (Sending off left)) m) h =
      let b = some_within off left e.size (good_serving h.1).0 in
      (h.0, sending_good t n e (known_flags h.1) h.1.fits (suc off) (less left) (less_fits off left e.size b.0 b.1))
  kept_good (on (Over k) m) h = tt

-- moves keep them
pub still_good : {t m m' is os : List ℕ} {x y : State} → Moves (turn t) (on x m) is os (on y m') → Good t (length m) x → (length m' ≡ length m) × Good t (length m) y
unfolding Stands
still_good {t} {m} p g = kept {P = Stands t (length m)} (kept_good t (length m)) p (refl, g)

pub next_good : {t m m' is os : List ℕ} {x y : State} → Moves (turn t) (on x m) is os (on y m') → Good t (length m) x → Good t (length m') y
next_good p g = let k = still_good p g in rw k.0 k.1

pub lasts : {t m : List ℕ} {x : State} → Good t (length m) x → Lasts (Good t) (turn t) x m
lasts g y m' is os p = (next_good p g, (still_good p g).0)
