-- The handshake's pieces in one piece each, and exactly the reply that the protocol has for each (01, "Server on the wire"). Each law says: from this place,
-- these bytes are taken and those are given, and there the session stands. The image is never touched.
--   greeting_first    the greeting is given before anything else is given or taken
--   whole_flags_..    the client's flags
--   option_judged     an option's 16 bytes are taken, and its payload begins
--   whole_handshake   the whole of it, as our client makes it
--   whole_..          each option, from the place before an option; z says whether the client's flags were 1 and the 124 zeros are sent
use Prim.Native.Nat.{ℕ, ◌+◌, ◌^◌, ◌≤◌, ◌<◌}
use mathlib.Core.Path.{◌≡◌, refl, sym}
use mathlib.Core.Bool.{Bool, true, false}
use mathlib.Core.Logic.{◌⊎◌, inl, inr}
use mathlib.Core.List.{List, [], ◌∷◌, ◌++◌, append-nil}
use native.Mathlib.Omega.{arith}
use borrow.Author.Tests.{ne_eqb, le-leb, lt-leb}
use lib.ListN.{length}
use Rattle.machine.specs.Machine.{on, Moves}
use Rattle.machine.proofs.Families.{Quiet}
use Rattle.machine.specs.Stream.{Further}
use Rattle.machine.proofs.Moves.{then}
use Rattle.machine.proofs.Bulk.{drops, folds}
use Rattle.machine.proofs.Cutting.{one_way}
use Rattle.wire.specs.Fields.{be, number, same_bytes}
use Rattle.wire.specs.Constants.{IHAVEOPT, rustnbd, NBD_OPT_EXPORT_NAME, NBD_OPT_ABORT, NBD_OPT_LIST, NBD_OPT_STARTTLS, NBD_REP_ACK, NBD_REP_SERVER, NBD_REP_ERR_UNSUP}
use Rattle.wire.specs.Layouts.{greeting, option_request, export_name, option_reply, export_reply}
use Rattle.wire.specs.Utf8.{run, valid}
use Rattle.wire.specs.Table.{records, wire_flags}
use Rattle.wire.specs.Lookup.{started, narrowed_by}
use Rattle.wire.specs.Found.{Named, First}
use Rattle.wire.specs.declared.utf8.Utf8.TheVariants.{Start}
use Rattle.wire.proofs.BigEndian.{number_be, same_bytes_eq}
use Rattle.wire.proofs.Walks.{records_few}
use Rattle.wire.proofs.Found.{found_first, found_none}
use Rattle.server.specs.Exchanges.{Unsupported, UnknownOption}
use Rattle.server.specs.Session.{State, Greeting, ClientFlags, OptionHead, Declining, Shaking, Header, Serving, Over}
use Rattle.server.specs.Session.{judge_flags, answered, passing, list_replies, export_at, named, payload, judge_option, turn}
use Rattle.server.proofs.Header.{each_flags, quiet_flags, each_option, quiet_option}
use Rattle.server.proofs.Session.{each_passed}
use Rattle.server.proofs.Names.{Seen, sees, seen, stands, each_seen}
use Rattle.server.proofs.Whole.{and_gives, gather_whole, greeting_given, list_given, declined_given, aborted_given, exported_given}

module _ (t m : List ℕ) where
  -- ---- the greeting: a fresh session has given a part of it and has taken nothing, or has given it whole before all else
  pub greeting_first : {is os m' : List ℕ} {y : State} → Moves (turn t) (on (Shaking (Greeting 18)) m) is os (on y m')
      → ((is ≡ []) × ((more : List ℕ) × (greeting ≡ os ++ more))) ⊎ ((more : List ℕ) × (os ≡ greeting ++ more))
  greeting_first {is} {os} {m'} {y} p = told (one_way {rest = []} {rest' = is} p (greeting_given t m) (append-nil is))
    where
      told : Further (turn t) os (on y m') [] greeting (on (Shaking (ClientFlags [])) m) is ⊎ Further (turn t) greeting (on (Shaking (ClientFlags [])) m) is os (on y m') []
          → ((is ≡ []) × ((more : List ℕ) × (greeting ≡ os ++ more))) ⊎ ((more : List ℕ) × (os ≡ greeting ++ more))
      told (inl f) = inl (none_taken f.more_in f.all_in, (f.more_out, f.all_out))
        where
          none_taken : (l : List ℕ) → [] ≡ l ++ is → is ≡ []
          none_taken [] e = sym e
          none_taken (b ∷ l) e = absurd (let z : ◌≡◌ {A = ℕ} 0 1 = cc in omega arith)
      told (inr f) = inr (f.more_out, f.all_out)

  -- ---- "Client flags (4 bytes) must be 1 or 3"
  flags_taken : (n : ℕ) → Moves (turn t) (on (Shaking (ClientFlags [])) m) (be 4 n) [] (on (judge_flags (be 4 n)) m)
  unfolding be
  flags_taken n = gather_whole t m (λ got. Shaking (ClientFlags got)) judge_flags 4 (each_flags t m) [] (be 4 n) (quiet_flags t 0) (omega arith) (omega arith)

  pub whole_flags_1 : Moves (turn t) (on (Shaking (ClientFlags [])) m) (be 4 1) [] (on (Shaking (OptionHead true [])) m)
  unfolding judge_flags be number
  whole_flags_1 = flags_taken 1

  pub whole_flags_3 : Moves (turn t) (on (Shaking (ClientFlags [])) m) (be 4 3) [] (on (Shaking (OptionHead false [])) m)
  unfolding judge_flags be number
  whole_flags_3 = flags_taken 3

  pub whole_flags_other : (n : ℕ) → n < 2 ^ 32 → (n ≡ 1 → ⊥) → (n ≡ 3 → ⊥) → Moves (turn t) (on (Shaking (ClientFlags [])) m) (be 4 n) [] (on (Over 1) m)
  unfolding judge_flags be
  whole_flags_other n h a b = rw (number_be 4 n h, ne_eqb n 1 a, ne_eqb n 3 b) at (flags_taken n)

module _ (t m : List ℕ) (z : Bool) where
  abbrev ready : State
  ready = Shaking (OptionHead z [])

  -- ---- an option's 16 bytes
  gathered : (to : ℕ) (got is : List ℕ) → Quiet (turn t) (λ l. Shaking (OptionHead z l)) (judge_option z t) (length got) to → 0 < length is → length got + length is ≤ to
      → Moves (turn t) (on (Shaking (OptionHead z got)) m) is [] (on (judge_option z t (got ++ is)) m)
  gathered to got is = gather_whole t m (λ l. Shaking (OptionHead z l)) (judge_option z t) to (each_option z t m) got is

  magic_taken : Moves (turn t) (on ready m) IHAVEOPT [] (on (Shaking (OptionHead z IHAVEOPT)) m)
  unfolding judge_option same_bytes
  magic_taken = gathered 8 [] IHAVEOPT (quiet_option z t 0) (omega arith) (omega arith)

  pub option_judged : (option len : ℕ) → option < 2 ^ 32 → len < 2 ^ 32
      → Moves (turn t) (on ready m) (IHAVEOPT ++ be 4 option ++ be 4 len) [] (on (payload z t option len) m)
  unfolding judge_option be
  option_judged option len a b =
      rw (number_be 4 option a, number_be 4 len b) at (then magic_taken (gathered 16 IHAVEOPT (be 4 option ++ be 4 len) (quiet_option z t 8) (omega arith) (omega arith)))

  pub whole_other_option_magic : (h : List ℕ) → length h ≡ 8 → (h ≡ IHAVEOPT → ⊥) → Moves (turn t) (on ready m) h [] (on (Over 2) m)
  unfolding judge_option
  whole_other_option_magic h l n = rw (l, differs (same_bytes h IHAVEOPT) refl) at (gathered 8 [] h (quiet_option z t 0) (omega arith) (omega arith))
    where
      differs : (b : Bool) → same_bytes h IHAVEOPT ≡ b → same_bytes h IHAVEOPT ≡ false
      differs true e = absurd (n (same_bytes_eq h IHAVEOPT e))
      differs false e = e

  -- the 16 bytes alone: nothing of such a payload is taken
  pub whole_too_long : (option len : ℕ) → option < 2 ^ 32 → len < 2 ^ 32 → 100000 < len
      → Moves (turn t) (on ready m) (IHAVEOPT ++ be 4 option ++ be 4 len) [] (on (Over 3) m)
  unfolding payload
  whole_too_long option len a b h = rw (lt-leb len 100000 h) at (option_judged option len a b)

  -- ---- EXPORT_NAME
  module _ (name : List ℕ) (short : length name ≤ 100000) where
    abbrev fitting : List Bool
    fitting = narrowed_by (records t) 0 name (started (records t) (length name))

    name_taken : Moves (turn t) (on ready m) (option_request NBD_OPT_EXPORT_NAME name) [] (on (named z t fitting (run Start name)) m)
    unfolding option_request payload
    name_taken =
        let set = started (records t) (length name) in
        let v : Seen = record { fits = set; text = Start; at = 0 } in
        let head = rw (le-leb (length name) 100000 short) at (option_judged NBD_OPT_EXPORT_NAME (length name) (omega arith) (omega arith)) in
        let rest = folds (turn t) (stands z t) (sees t) (each_seen z t m) name v (length name) 0 (omega arith) in
        then head (rw (seen t name set Start 0) at rest)

    -- the first export of that name
    pub whole_export : (k : ℕ) → valid name ≡ true → First (records t) name k
        → Moves (turn t) (on ready m) (option_request NBD_OPT_EXPORT_NAME name) (export_reply (export_at t k).size (wire_flags (export_at t k).flags) z) (on (Serving (export_at t k) (Header [])) m)
    unfolding named
    whole_export k text f = and_gives t (rw (text, (found_first (records t) name (records_few t) k).1 f) at name_taken) (exported_given t m z (export_at t k))

    pub whole_export_not_text : valid name ≡ false → Moves (turn t) (on ready m) (option_request NBD_OPT_EXPORT_NAME name) [] (on (Over 5) m)
    unfolding named
    whole_export_not_text text = rw text at name_taken

    pub whole_export_unknown : valid name ≡ true → ((k : ℕ) → Named (records t) k name → ⊥)
        → Moves (turn t) (on ready m) (option_request NBD_OPT_EXPORT_NAME name) [] (on (Over 6) m)
    unfolding named
    whole_export_unknown text none_has = rw (text, (found_none (records t) name (records_few t)).1 none_has) at name_taken

  -- ---- the other options: the whole payload is taken, then the option is answered
  module _ (data' : List ℕ) (short : length data' ≤ 100000) where
    passed : (option : ℕ) → option < 2 ^ 32 → (option ≡ NBD_OPT_EXPORT_NAME → ⊥)
        → Moves (turn t) (on ready m) (option_request option data') [] (on (answered z option (length data')) m)
    unfolding option_request payload
    passed option h other =
        let head = rw (le-leb (length data') 100000 short, ne_eqb option NBD_OPT_EXPORT_NAME other) at (option_judged option (length data') h (omega arith)) in
        then head (drops (turn t) (passing z option (length data')) (each_passed t z option (length data')) data' (length data') 0 m (omega arith))

    pub whole_abort : Moves (turn t) (on ready m) (option_request NBD_OPT_ABORT data') (option_reply NBD_OPT_ABORT NBD_REP_ACK []) (on (Over 7) m)
    unfolding answered
    whole_abort = and_gives t (passed NBD_OPT_ABORT (omega arith) (λ e. omega arith)) (aborted_given t m)

    pub whole_list_payload : 0 < length data' → Moves (turn t) (on ready m) (option_request NBD_OPT_LIST data') [] (on (Over 4) m)
    unfolding answered
    whole_list_payload h = rw (ne_eqb (length data') 0 (λ e. omega arith)) at (passed NBD_OPT_LIST (omega arith) (λ e. omega arith))

    pub whole_starttls : Moves (turn t) (on ready m) (option_request NBD_OPT_STARTTLS data') [] (on (Over 8) m)
    unfolding answered
    whole_starttls = passed NBD_OPT_STARTTLS (omega arith) (λ e. omega arith)

    -- an option other than EXPORT_NAME, and where it leads
    record Answers (option : ℕ) (x : State) : Type 0 where
      fits : option < 2 ^ 32
      other : option ≡ NBD_OPT_EXPORT_NAME → ⊥
      leads : answered z option (length data') ≡ x

    answers : {option : ℕ} {x : State} → Answers option x → Moves (turn t) (on ready m) (option_request option data') [] (on x m)
    answers {option} a = rw a.leads at (passed option a.fits a.other)

    pub whole_unsupported : (option : ℕ) → Unsupported option
        → Moves (turn t) (on ready m) (option_request option data') (option_reply option NBD_REP_ERR_UNSUP []) (on ready m)
    unfolding answered
    whole_unsupported option u = and_gives t (answers (declines u)) (declined_given t m z option)
      where
        declines : Unsupported option → Answers option (Shaking (Declining z option 20))
        declines (inl e) = record { fits = omega arith; other = λ q. omega arith; leads = rw e }
        declines (inr (inl e)) = record { fits = omega arith; other = λ q. omega arith; leads = rw e }
        declines (inr (inr (inl e))) = record { fits = omega arith; other = λ q. omega arith; leads = rw e }
        declines (inr (inr (inr e))) = record { fits = omega arith; other = λ q. omega arith; leads = rw e }

    pub whole_unknown_option : (option : ℕ) → option < 2 ^ 32 → UnknownOption option
        → Moves (turn t) (on ready m) (option_request option data') [] (on (Over 9) m)
    unfolding answered
    whole_unknown_option option h u = answers (ends u)
      where
        ends : UnknownOption option → Answers option (Over 9)
        ends (inl e) = record { fits = h; other = λ q. omega arith; leads = rw e }
        ends (inr (inl e)) = record { fits = h; other = λ q. omega arith; leads = rw e }
        ends (inr (inr (inl e))) = record { fits = h; other = λ q. omega arith; leads = rw e }
        ends (inr (inr (inr (inl e)))) = record { fits = h; other = λ q. omega arith; leads = rw e }
        ends (inr (inr (inr (inr e)))) = record {
          fits = h;
          other = λ q. omega arith;
          leads =
              rw (
                ne_eqb option 2 (λ q. omega arith),
                ne_eqb option 3 (λ q. omega arith),
                ne_eqb option 5 (λ q. omega arith),
                ne_eqb option 6 (λ q. omega arith),
                ne_eqb option 7 (λ q. omega arith),
                ne_eqb option 8 (λ q. omega arith),
                ne_eqb option 11 (λ q. omega arith),
              );
        }

  pub whole_list : Moves (turn t) (on ready m) (option_request NBD_OPT_LIST [])
      (option_reply NBD_OPT_LIST NBD_REP_SERVER (be 4 7 ++ rustnbd) ++ option_reply NBD_OPT_LIST NBD_REP_ACK []) (on ready m)
  unfolding answered list_replies
  whole_list = and_gives t (passed [] (omega arith) NBD_OPT_LIST (omega arith) (λ e. omega arith)) (list_given t m z)

-- ---- a whole handshake, as our client makes it: the greeting, flags 1 and one option
pub whole_handshake : (t m name : List ℕ) (k : ℕ) → length name ≤ 100000 → valid name ≡ true → First (records t) name k
    → Moves (turn t) (on (Shaking (Greeting 18)) m) (export_name name) (greeting ++ export_reply (export_at t k).size (wire_flags (export_at t k).flags) true)
    (on (Serving (export_at t k) (Header [])) m)
unfolding export_name
whole_handshake t m name k short text f = then (greeting_given t m) (then (whole_flags_1 t m) (whole_export t m true name short k text f))
