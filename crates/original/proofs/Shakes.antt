-- Document 000's `handshake` and the machine's.
--   Shakes           what the handshake says, the machine does
--   step_option      the match on an option
--   options_same     the loop over options
--   handshake_same   the whole, from the greeting on
use Prim.Native.Nat.{ℕ, zero, suc, ◌^◌, ◌≤◌, ◌<◌}
use mathlib.Core.Path.{◌≡◌, refl, sym, ap, ◌∙◌}
use mathlib.Core.Bool.{Bool, true, false, not}
use mathlib.Core.Logic.{inl, inr}
use mathlib.Core.List.{List, [], ◌∷◌, ◌++◌, append_assoc, append-nil}
use Rattle.std.specs.Prelude.{Option, None, Some}
use native.Mathlib.Omega.{arith}
use borrow.Author.Tests.{not-true, not-false, eqb-true, eqb-false, ltb-true, ltb-false, leb-true, leb-false}
use lib.Dec.{eqb, ltb, leb}
use lib.ListN.{length, take, drop, length-drop, take-append-drop}
use lib.Seq.{length-take-le}
use Rattle.machine.specs.Choice.{pick, both}
use Rattle.machine.specs.Machine.{on, Moves}
use Rattle.machine.proofs.Moves.{then}
use Rattle.machine.proofs.Runs.{positive}
use Rattle.wire.specs.Fields.{be, number, Bytes}
use Rattle.wire.specs.Constants.{IHAVEOPT}
use Rattle.wire.specs.Layouts.{option_request}
use Rattle.wire.specs.Utf8.{valid}
use Rattle.wire.specs.Table.{records}
use Rattle.wire.specs.declared.table.Export.{Export}
use Rattle.wire.proofs.BigEndian.{be_number, bytes_take, bytes_drop, field_lt}
use Rattle.server.specs.Session.{State, Greeting, ClientFlags, OptionHead, Shaking, Header, Serving, Over, export_at, turn}
use Rattle.server.specs.Exchanges.{Unsupported, UnknownOption}
use Rattle.server.proofs.Kept.{picked}
use Rattle.server.proofs.Whole.{greeting_given}
use Rattle.server.proofs.Negotiation.{whole_flags_1, whole_flags_3, whole_flags_other, option_judged, whole_other_option_magic, whole_too_long}
use Rattle.server.proofs.Negotiation.{whole_export, whole_export_not_text, whole_export_unknown, whole_abort, whole_list, whole_list_payload, whole_starttls, whole_unsupported, whole_unknown_option}
use Rattle.original.specs.Consts.{rustnbd, NBD_OPT_MAGIC}
use Rattle.original.specs.Leaves.{has, export_flags, table_fields, from_utf8, reply, export_reply}
use Rattle.original.specs.Connection.{read_number, ended}
use Rattle.original.specs.Handshake.{Shaken, chose, failed, writes, fails, cut, lookup, zeroes, found, option, options, handshake}
use Rattle.original.proofs.Leaves.{same_flags, same_greeting, same_option_reply, same_export_reply}
use Rattle.original.proofs.Texts.{same_text}
use Rattle.original.proofs.Reaches.{reaches_then}
use Rattle.original.proofs.Meets.{Meets, meets_over, meets_cut}
use Rattle.original.proofs.Headers.{front}
use Rattle.original.proofs.Parts.{flags_part, option_part, option_magic_part, payload_part}
use Rattle.original.proofs.Requests.{above}
use Rattle.original.proofs.Lookups.{lookup_some, lookup_none}

-- ---- tests
unknown : (n : ℕ) → (n ≡ 1 → ⊥) → (n ≡ 2 → ⊥) → (n ≡ 3 → ⊥) → (n ≡ 5 → ⊥) → (n ≡ 6 → ⊥) → (n ≡ 7 → ⊥) → (n ≡ 8 → ⊥) → (n ≡ 11 → ⊥) → UnknownOption n
unknown n d1 d2 d3 d5 d6 d7 d8 d11 = go (eqb n 0) refl (eqb n 4) refl (eqb n 9) refl (eqb n 10) refl
  where
    go : (a : Bool) → eqb n 0 ≡ a → (b : Bool) → eqb n 4 ≡ b → (c : Bool) → eqb n 9 ≡ c → (d : Bool) → eqb n 10 ≡ d → UnknownOption n
    go true p b q c r d s = inl (eqb-true n 0 p)
    go false p true q c r d s = inr (inl (eqb-true n 4 q))
    go false p false q true r d s = inr (inr (inl (eqb-true n 9 r)))
    go false p false q false r true s = inr (inr (inr (inl (eqb-true n 10 s))))
    go false p false q false r false s =
        let a4 = above 3 n (above 2 n (above 1 n (above 0 n (omega arith) (eqb-false n 0 p)) d1) d2) d3 in
        let a8 = above 7 n (above 6 n (above 5 n (above 4 n a4 (eqb-false n 4 q)) d5) d6) d7 in
        inr (inr (inr (inr (above 11 n (above 10 n (above 9 n (above 8 n a8 d8) (eqb-false n 9 r)) (eqb-false n 10 s)) d11))))

empty : (l : List ℕ) → length l ≡ 0 → l ≡ []
empty [] h = refl
empty (b ∷ l) h = absurd (omega arith)

writes_both : (a b : List ℕ) (s : Shaken) → writes a (writes b s) ≡ writes (a ++ b) s
writes_both a b (chose e left sent) = rw (append_assoc a b sent)
writes_both a b (failed n left sent) = rw (append_assoc a b sent)

writes_none : (s : Shaken) → writes [] s ≡ s
writes_none (chose e left sent) = refl
writes_none (failed n left sent) = refl

module _ (t m : List ℕ) where
  -- an export was chosen
  pub record Chose (x : State) (input : List ℕ) (e : Export) (left sent : List ℕ) : Type 0 where
    pub taken : List ℕ
    pub all_in : input ≡ taken ++ left
    pub moves : Moves (turn t) (on x m) taken sent (on (Serving e (Header [])) m)

  abbrev pub Shakes : State → List ℕ → Shaken → Type 0
  Shakes x input (chose e left sent) = Chose x input e left sent
  Shakes x input (failed n left sent) = Meets t (on x m) input (record { left = left; sent = sent; device = m; outcome = ended n })

  shakes_then : {x y : State} {is os input : List ℕ} (rest : List ℕ) (s : Shaken) → Moves (turn t) (on x m) is os (on y m) → input ≡ is ++ rest → Shakes y rest s → Shakes x input (writes os s)
  shakes_then {is = is} rest (chose e left sent) p q f = record {
    taken = is ++ f.taken;
    all_in = q ∙ ap (λ (l : List ℕ). is ++ l) f.all_in ∙ sym (append_assoc is f.taken left);
    moves = then p f.moves;
  }
  shakes_then rest (failed n left sent) p q f = reaches_then p q f

  -- bytes that are taken before an end, or before the whole of a cut input
  over : {x : State} {is input left : List ℕ} {n : ℕ} → Moves (turn t) (on x m) is [] (on (Over n) m) → input ≡ is ++ left → Shakes x input (fails n left)
  over p q = meets_over t p q

  module _ (flags : ℕ) where
    abbrev ready : State
    ready = Shaking (OptionHead (zeroes flags) [])

    -- ---- an option whose payload is there
    module _ (opt left : List ℕ) (short : length opt ≤ 100000) (more : List ℕ → Shaken) (goes_on : Shakes ready left (more left)) where
      abbrev asks : ℕ → List ℕ
      asks clopt = option_request clopt opt ++ left

      step_name : Shakes ready (asks 1) (pick (from_utf8 opt) (found flags left (lookup (records t) opt)) (fails 5 left))
      step_name =
          rw (same_text opt)
          (picked (Shakes ready (asks 1)) (valid opt) (λ text. go text (lookup (records t) opt) refl) (λ text. over (whole_export_not_text t m (zeroes flags) opt short text) refl))
        where
          go : valid opt ≡ true → (o : Option Export) → lookup (records t) opt ≡ o → Shakes ready (asks 1) (found flags left o)
          go text None q = over (whole_export_unknown t m (zeroes flags) opt short text (lookup_none (records t) opt q)) refl
          go text (Some e) q =
              let w = lookup_some (records t) opt e q in
              let size : ℕ = (export_at t w.0).size in
              let table-flags : ℕ = (export_at t w.0).flags in
              rw (← w.2) (record {
                taken = option_request 1 opt;
                all_in = refl;
                moves = rw (append-nil (export_reply size (export_flags (table_fields table-flags)) (zeroes flags)), same_flags table-flags, same_export_reply) (whole_export t m (zeroes flags) opt short w.0 text w.1);
              })

      step_list : Shakes ready (asks 3) (pick (eqb (length opt) 0) (writes (reply 3 2 rustnbd) (writes (reply 3 1 []) (more left))) (fails 4 left))
      unfolding be
      step_list = picked (Shakes ready (asks 3)) (eqb (length opt) 0) none_there (λ q. over (whole_list_payload t m (zeroes flags) opt short (positive (length opt) (eqb-false (length opt) 0 q))) refl)
        where
          none_there : eqb (length opt) 0 ≡ true → Shakes ready (asks 3) (writes (reply 3 2 rustnbd) (writes (reply 3 1 []) (more left)))
          none_there q =
              rw (empty opt (eqb-true (length opt) 0 q), writes_both (reply 3 2 rustnbd) (reply 3 1 []) (more left), same_option_reply 3 2 rustnbd, same_option_reply 3 1 [])
              (shakes_then left (more left) (whole_list t m (zeroes flags)) refl goes_on)

      -- an option that is declined
      step_unsupported : (clopt : ℕ) → Unsupported clopt → Shakes ready (asks clopt) (writes (reply clopt 0x80000001 []) (more left))
      step_unsupported clopt u = rw (same_option_reply clopt 0x80000001 []) (shakes_then left (more left) (whole_unsupported t m (zeroes flags) opt short clopt u) refl goes_on)

      pub step_option : (clopt : ℕ) → clopt < 2 ^ 32 → Shakes ready (asks clopt) (option t flags clopt opt left more)
      unfolding option
      step_option clopt fits =
          picked (Shakes ready (asks clopt)) (eqb clopt 1) (λ q. rw (eqb-true clopt 1 q) step_name)
          λ q1.
          picked (Shakes ready (asks clopt)) (eqb clopt 2) (λ q. rw (eqb-true clopt 2 q) (rw (append-nil (reply 2 1 []), same_option_reply 2 1 []) (meets_over t (whole_abort t m (zeroes flags) opt short) refl)))
          λ q2.
          picked (Shakes ready (asks clopt)) (eqb clopt 3) (λ q. rw (eqb-true clopt 3 q) step_list)
          λ q3.
          picked (Shakes ready (asks clopt)) (eqb clopt 5) (λ q. rw (eqb-true clopt 5 q) (over (whole_starttls t m (zeroes flags) opt short) refl))
          λ q5.
          picked (Shakes ready (asks clopt)) (eqb clopt 6) (λ q. step_unsupported clopt (inl (eqb-true clopt 6 q)))
          λ q6.
          picked (Shakes ready (asks clopt)) (eqb clopt 7) (λ q. step_unsupported clopt (inr (inl (eqb-true clopt 7 q))))
          λ q7.
          picked (Shakes ready (asks clopt)) (eqb clopt 8) (λ q. step_unsupported clopt (inr (inr (inl (eqb-true clopt 8 q)))))
          λ q8.
          picked (Shakes ready (asks clopt)) (eqb clopt 11) (λ q. step_unsupported clopt (inr (inr (inr (eqb-true clopt 11 q)))))
          λ q11.
          over (whole_unknown_option t m (zeroes flags) opt short clopt fits
          (unknown clopt (eqb-false clopt 1 q1) (eqb-false clopt 2 q2) (eqb-false clopt 3 q3) (eqb-false clopt 5 q5) (eqb-false clopt 6 q6) (eqb-false clopt 7 q7) (eqb-false clopt 8 q8) (eqb-false clopt 11 q11))) refl

    -- ---- an option, or what there is of one
    module _ (input : List ℕ) (bytes : Bytes input) where
      abbrev clopt : ℕ
      clopt = number (take 4 (drop 8 input))

      abbrev optlen : ℕ
      optlen = number (take 4 (drop 4 (drop 8 input)))

      abbrev behind : List ℕ
      behind = drop 4 (drop 4 (drop 8 input))

      abbrev head : List ℕ
      head = IHAVEOPT ++ be 4 clopt ++ be 4 optlen

      same_input : {l : List ℕ} (s : Shaken) → input ≡ l → Shakes ready l s → Shakes ready input s
      same_input s q p = rw q p

      is_magic : 8 ≤ length input → number (take 8 input) ≡ NBD_OPT_MAGIC → take 8 input ≡ IHAVEOPT
      unfolding be
      is_magic h e = sym (rw (length-take-le 8 input h, e) at (be_number (take 8 input) (bytes_take 8 input bytes)))

      no_magic : (number (take 8 input) ≡ NBD_OPT_MAGIC → ⊥) → take 8 input ≡ IHAVEOPT → ⊥
      unfolding number
      no_magic h e = h (ap number e)

      fits : (clopt < 2 ^ 32) × (optlen < 2 ^ 32)
      fits =
          let b = bytes_drop 8 input bytes in
          (field_lt (drop 8 input) 0 4 b, field_lt (drop 4 (drop 8 input)) 0 4 (bytes_drop 4 (drop 8 input) b))

      in_parts : 4 ≤ length (drop 8 input) → 4 ≤ length (drop 4 (drop 8 input)) → take 8 input ≡ IHAVEOPT → input ≡ head ++ behind
      unfolding be
      in_parts c d e =
          let b1 = bytes_drop 8 input bytes in
          let b2 = bytes_drop 4 (drop 8 input) b1 in
          sym (take-append-drop 8 input)
          ∙ rw e
          (ap (λ (l : List ℕ). IHAVEOPT ++ l) (front 4 (drop 8 input) b1 c ∙ ap (λ (l : List ℕ). be 4 clopt ++ l) (front 4 (drop 4 (drop 8 input)) b2 d)))

      asked : 4 ≤ length (drop 8 input) → 4 ≤ length (drop 4 (drop 8 input)) → take 8 input ≡ IHAVEOPT → optlen ≤ length behind
          → input ≡ option_request clopt (take optlen behind) ++ drop optlen behind
      unfolding be option_request
      asked c d e h = in_parts c d e ∙ rw (length-take-le optlen behind h) (ap (λ (l : List ℕ). head ++ l) (sym (take-append-drop optlen behind)))

      cut_payload : 4 ≤ length (drop 8 input) → 4 ≤ length (drop 4 (drop 8 input)) → take 8 input ≡ IHAVEOPT → length behind < optlen → optlen ≤ 100000 → Shakes ready input cut
      cut_payload c d e h short =
          let w = payload_part t m (zeroes flags) behind clopt optlen h short in
          same_input cut (in_parts c d e) (meets_cut t (then (option_judged t m (zeroes flags) clopt optlen fits.0 fits.1) w.moves) w.wanted w.going_on)

      whole_option : 4 ≤ length (drop 8 input) → 4 ≤ length (drop 4 (drop 8 input)) → take 8 input ≡ IHAVEOPT → optlen ≤ 100000 → optlen ≤ length behind
          → (more : List ℕ → Shaken) → Shakes ready (drop optlen behind) (more (drop optlen behind))
          → Shakes ready input (option t flags clopt (take optlen behind) (drop optlen behind) more)
      whole_option c d e short there more goes_on =
          same_input (option t flags clopt (take optlen behind) (drop optlen behind) more) (asked c d e there)
          (step_option (take optlen behind) (drop optlen behind) (rw (length-take-le optlen behind there) short) more goes_on clopt fits.0)

      cut_head : length input < 16 → 8 ≤ length input → take 8 input ≡ IHAVEOPT → Shakes ready input cut
      cut_head h a e = meets_cut t (option_magic_part t m (zeroes flags) input a h e) refl refl

    abbrev All : ℕ → Type 0
    All k = (input : List ℕ) → Bytes input → length input < k → Shakes ready input (options t flags k input)

    pub options_same : (k : ℕ) → All k
    unfolding options
    options_same zero input bytes h = absurd (omega arith)
    options_same (suc k) input bytes h =
        picked (Shakes ready input) (leb 8 (length input))
        (λ a.
        let a' = leb-true 8 (length input) a in
        picked (Shakes ready input) (not (eqb (number (take 8 input)) NBD_OPT_MAGIC))
        (λ b.
        over (whole_other_option_magic t m (zeroes flags) (take 8 input) (length-take-le 8 input a')
        (no_magic input bytes (eqb-false (number (take 8 input)) NBD_OPT_MAGIC (not-true (eqb (number (take 8 input)) NBD_OPT_MAGIC) b)))) (sym (take-append-drop 8 input)))
        λ b.
        let e = is_magic input bytes a' (eqb-true (number (take 8 input)) NBD_OPT_MAGIC (not-false (eqb (number (take 8 input)) NBD_OPT_MAGIC) b)) in
        picked (Shakes ready input) (leb 4 (length (drop 8 input)))
        (λ c.
        let c' = leb-true 4 (length (drop 8 input)) c in
        picked (Shakes ready input) (leb 4 (length (drop 4 (drop 8 input))))
        (λ d.
        let d' = leb-true 4 (length (drop 4 (drop 8 input))) d in
        picked (Shakes ready input) (ltb 100000 (optlen input bytes))
        (λ f. over (whole_too_long t m (zeroes flags) (clopt input bytes) (optlen input bytes) (fits input bytes).0 (fits input bytes).1 (ltb-true 100000 (optlen input bytes) f)) (in_parts input bytes c' d' e))
        λ f.
        let short = ltb-false 100000 (optlen input bytes) f in
        picked (Shakes ready input) (leb (optlen input bytes) (length (behind input bytes)))
        (λ g.
        let there = leb-true (optlen input bytes) (length (behind input bytes)) g in
        let rest = drop (optlen input bytes) (behind input bytes) in
        let b1 = bytes_drop 4 (drop 4 (drop 8 input)) (bytes_drop 4 (drop 8 input) (bytes_drop 8 input bytes)) in
        let l1 = length-drop 8 input in
        let l2 = length-drop 4 (drop 8 input) in
        let l3 = length-drop 4 (drop 4 (drop 8 input)) in
        whole_option input bytes c' d' e short there (options t flags k)
        (options_same k rest (bytes_drop (optlen input bytes) (behind input bytes) b1) (omega (arith, length-drop (optlen input bytes) (behind input bytes)))))
        (λ g. cut_payload input bytes c' d' e (leb-false (optlen input bytes) (length (behind input bytes)) g) short))
        (λ d. cut_head input bytes (omega (arith, leb-false 4 (length (drop 4 (drop 8 input))) d, length-drop 4 (drop 8 input), length-drop 8 input)) a' e))
        (λ c. cut_head input bytes (omega (arith, leb-false 4 (length (drop 8 input)) c, length-drop 8 input)) a' e))
        (λ a. meets_cut t (option_part t m (zeroes flags) input (leb-false 8 (length input) a)) refl refl)

  -- ---- the client's flags, then options
  module _ (input : List ℕ) (bytes : Bytes input) where
    abbrev flags : ℕ
    flags = number (take 4 input)

    abbrev rest : List ℕ
    rest = drop 4 input

    -- flags that are accepted
    accepted : 4 ≤ length input → Moves (turn t) (on (Shaking (ClientFlags [])) m) (be 4 flags) [] (on (Shaking (OptionHead (zeroes flags) [])) m)
        → Shakes (Shaking (ClientFlags [])) input (options t flags (suc (length rest)) rest)
    accepted h p =
        let s = options t flags (suc (length rest)) rest in
        rw (← writes_none s) (shakes_then rest s p (front 4 input bytes h) (options_same flags (suc (length rest)) rest (bytes_drop 4 input bytes) (omega arith)))

    judged : 4 ≤ length input → Shakes (Shaking (ClientFlags [])) input (pick (both (not (eqb flags 1)) (not (eqb flags 3))) (fails 1 rest) (options t flags (suc (length rest)) rest))
    unfolding has
    judged h = go (eqb flags 1) refl (eqb flags 3) refl
      where
        go : (a : Bool) → eqb flags 1 ≡ a → (b : Bool) → eqb flags 3 ≡ b
            → Shakes (Shaking (ClientFlags [])) input (pick (both (not a) (not b)) (fails 1 rest) (options t flags (suc (length rest)) rest))
        go true p b q = accepted h (rw (eqb-true flags 1 p) (whole_flags_1 t m))
        go false p true q = accepted h (rw (eqb-true flags 3 q) (whole_flags_3 t m))
        go false p false q = over (whole_flags_other t m flags (field_lt input 0 4 bytes) (eqb-false flags 1 p) (eqb-false flags 3 q)) (front 4 input bytes h)

    pub handshake_same : Shakes (Shaking (Greeting 18)) input (handshake t input)
    unfolding handshake
    handshake_same =
        let s = read_number 4 input cut λ flags left. pick (both (not (eqb flags 1)) (not (eqb flags 3))) (fails 1 left) (options t flags (suc (length left)) left) in
        rw same_greeting (shakes_then input s (greeting_given t m) refl
        (picked (Shakes (Shaking (ClientFlags [])) input) (leb 4 (length input)) (λ h. judged (leb-true 4 (length input) h)) (λ h. meets_cut t (flags_part t m input (leb-false 4 (length input) h)) refl refl)))
