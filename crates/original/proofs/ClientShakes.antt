-- Document 000's `handshake` of the client and the machine's.
--   same_fields       the five fields
--   zeroes_meets      the 124 bytes
--   terms_meets       the size and the flags, in either style
--   handshake_meets   the whole
use Prim.Native.Nat.{ℕ, suc, ◌+◌, ◌-◌, ◌%◌, ◌^◌, ◌≤◌, ◌<◌}
use mathlib.Core.Path.{◌≡◌, refl, sym}
use mathlib.Core.Bool.{Bool, true, false, not}
use mathlib.Core.List.{List, [], ◌∷◌, ◌++◌}
use native.Mathlib.Omega.{arith}
use borrow.Author.Tests.{leb-true, leb-false}
use lib.Dec.{eqb, leb}
use lib.ListN.{length, take, drop, length-drop, take-append-drop}
use lib.Seq.{length-take-le, drop-drop}
use Rattle.machine.specs.Choice.{pick, both}
use Rattle.machine.specs.Parts.{blank}
use Rattle.machine.specs.Machine.{On, on, Moves}
use Rattle.machine.proofs.Bulk.{folds, drops}
use Rattle.machine.proofs.Zeros.{blank_fold}
use Rattle.wire.specs.Fields.{number, same_bytes}
use Rattle.wire.specs.Table.{bit}
use Rattle.server.proofs.Kept.{picked}
use Rattle.client.specs.Calls.{fields_of, device}
use Rattle.client.specs.Session.{State, Magic, Style, Newstyle, SizeAndFlags, Filler, Shaking, Over, judge_magic, judge_style, judge_size_and_flags, size_and_flags_length, judged, filler, turn}
use Rattle.client.specs.Session as machine
use Rattle.client.specs.Contract.{fields_values}
use Rattle.client.specs.declared.state.Outcome.TheVariants.{Succeeded}
use Rattle.client.specs.declared.state.Value.TheVariants.{Opened}
use Rattle.client.proofs.Header.{take_part, magic_part, style_part, terms_part}
use Rattle.client.proofs.Alone.{gathered_run, greeted_run}
use Rattle.original.specs.Consts.{NBDMAGIC, IHAVEOPT, OLDSTYLE}
use Rattle.original.specs.Leaves.{zeros}
use Rattle.original.specs.Connection.{read_exact, read_number}
use Rattle.original.specs.Client.{Done, stops, ok, fault, field, fill_in_flags, zeroes, newstyle, oldstyle, handshake}
use Rattle.original.proofs.Leaves.{has_bit, same_zeros, same_export_name}
use Rattle.original.proofs.Reaches.{reaches_then}
use Rattle.original.proofs.ClientMeets.{Meets, meets_closed, meets_over, meets_cut, part_run}

-- ---- the fields
same_field : (flags k : ℕ) → pick (both (bit 0 flags) (bit k flags)) 1 0 ≡ field flags (2 ^ (1 + k) - 2 ^ k)
same_field flags k = rw (has_bit flags 0, has_bit flags k) (go (bit 0 flags) (bit k flags))
  where
    go : (a b : Bool) → pick {A = ℕ} (both a b) 1 0 ≡ pick a (pick b 1 0) 0
    go true true = refl
    go true false = refl
    go false b = refl

pub same_fields : (flags : ℕ) → fields_values (fields_of flags) ≡ fill_in_flags flags
same_fields flags = rw (same_field flags 1, same_field flags 9, same_field flags 4, same_field flags 5, same_field flags 2)

-- ---- 2 bytes of flags, or in the old style 4, of which the low 16 bits count
abbrev width : Bool → ℕ
width old = pick old 4 2

abbrev low : Bool → ℕ → ℕ
low old flags = pick old (flags % 2 ^ 16) flags

terms_length : (old : Bool) → size_and_flags_length old ≡ 8 + width old
terms_length true = refl
terms_length false = refl

terms_at : (n : ℕ) (old : Bool) (left : List ℕ) → 8 + width old ≤ length left
    → judge_size_and_flags n old (take (8 + width old) left) ≡ Shaking n (Filler (number (take 8 left)) (low old (number (take (width old) (drop 8 left)))) true 124)
unfolding judge_size_and_flags
terms_at n true left h = rw (length-take-le 12 left h, take_part 0 8 12 left (omega arith), take_part 8 4 12 left (omega arith))
terms_at n false left h = rw (length-take-le 10 left h, take_part 0 8 10 left (omega arith), take_part 8 2 10 left (omega arith))

module _ (name : List ℕ) where
  abbrev n : ℕ
  n = length name

  abbrev short : Done
  short = stops [] name (fault 50)

  -- ---- the 124 bytes
  module _ (size flags : ℕ) (left : List ℕ) where
    abbrev filling : On State
    filling = on (Shaking n (Filler size flags true 124)) name

    abbrev step : Bool → ℕ → Bool
    step v b = both v (eqb b 0)

    all_there : 124 ≤ length left → Moves turn filling (take 124 left) [] (on (judged size flags (same_bytes (take 124 left) zeros)) name)
    all_there h =
        let l = length-take-le 124 left h in
        let same : same_bytes (take 124 left) zeros ≡ blank (take 124 left) = rw l at (same_zeros (take 124 left)) in
        rw same (rw (blank_fold true (take 124 left)) at (folds turn (filler n size flags) step {m = name} (λ _ _. refl) (take 124 left) true 124 0 (omega arith)))

    pub zeroes_meets : Meets filling left (zeroes name size flags left)
    zeroes_meets =
        picked (Meets filling left) (leb 124 (length left)) (λ h. whole (same_bytes (take 124 left) zeros) (all_there (leb-true 124 (length left) h)))
        (λ h.
        let k : ℕ = 124 - suc (length left) in
        let h' = leb-false 124 (length left) h in
        meets_cut (folds turn (filler n size flags) step {m = name} (λ _ _. refl) left true 124 (suc k) (omega arith)) refl refl)
      where
        whole : (b : Bool) → Moves turn filling (take 124 left) [] (on (judged size flags b) name)
            → Meets filling left (pick (not b) (stops (drop 124 left) name (fault 43)) (stops (drop 124 left) name (ok (size ∷ fill_in_flags flags) (record { size = size; position = 0 }))))
        whole true p = rw (← same_fields flags) (meets_closed (Succeeded (Opened size (fields_of flags))) (device size flags) p (sym (take-append-drop 124 left)))
        whole false p = meets_over p (sym (take-append-drop 124 left))

  -- ---- the size and the flags
  module _ (old : Bool) (left : List ℕ) where
    abbrev terms : On State
    terms = on (Shaking n (SizeAndFlags old [])) name

    abbrev size : ℕ
    size = number (take 8 left)

    abbrev flags : ℕ
    flags = low old (number (take (width old) (drop 8 left)))

    abbrev behind : List ℕ
    behind = drop (width old) (drop 8 left)

    quiet : (h : List ℕ) → length h < 8 + width old → judge_size_and_flags n old h ≡ Shaking n (SizeAndFlags old h)
    quiet h p = terms_part n old h (rw (terms_length old) p)

    cut_terms : length left < 8 + width old → Meets terms left short
    cut_terms h = meets_cut (part_run (λ l. Shaking n (SizeAndFlags old l)) (judge_size_and_flags n old) (8 + width old) quiet left name (λ _. refl) h) refl refl

    whole_terms : 8 + width old ≤ length left → Meets terms left (zeroes name size flags behind)
    whole_terms h =
        let l = length-take-le (8 + width old) left h in
        let p = gathered_run (λ l. Shaking n (SizeAndFlags old l)) (judge_size_and_flags n old) (8 + width old) quiet (take (8 + width old) left) name (λ _. refl) l (omega arith) in
        reaches_then (rw (terms_at n old left h) at p) (rw (drop-drop (width old) 8 left) (sym (take-append-drop (8 + width old) left))) (zeroes_meets size flags behind)

    pub terms_meets : Meets terms left (read_number 8 left short λ size left. read_number (width old) left short λ flags left. zeroes name size (low old flags) left)
    terms_meets =
        let l = length-drop 8 left in
        picked (Meets terms left) (leb 8 (length left))
        (λ a.
        let a' = leb-true 8 (length left) a in
        picked (Meets terms left) (leb (width old) (length (drop 8 left)))
        (λ b. let b' = leb-true (width old) (length (drop 8 left)) b in whole_terms (omega arith))
        (λ b. let b' = leb-false (width old) (length (drop 8 left)) b in cut_terms (omega arith)))
        (λ a. let a' = leb-false 8 (length left) a in cut_terms (omega arith))

  -- ---- the new style and the old
  newstyle_meets : (left : List ℕ) → Meets (on (Shaking n (Newstyle 2)) name) left (newstyle name left)
  newstyle_meets left =
      picked (Meets (on (Shaking n (Newstyle 2)) name) left) (leb 2 (length left))
      (λ h.
      rw (same_export_name name)
      (reaches_then (greeted_run name (take 2 left) (length-take-le 2 left (leb-true 2 (length left) h))) (sym (take-append-drop 2 left)) (terms_meets false (drop 2 left))))
      (λ h.
      let h' = leb-false 2 (length left) h in
      meets_cut (drops turn (machine.newstyle n) (λ _ _. refl) left 2 (suc (2 - suc (length left))) name (omega arith)) refl refl)

  oldstyle_meets : {x : On State} (is left : List ℕ) → Moves turn x is [] (on (machine.oldstyle n) name) → Meets x (is ++ left) (oldstyle name left)
  oldstyle_meets {x} is left p = go (eqb n 0) p
    where
      go : (b : Bool) → Moves turn x is [] (on (pick b (Shaking n (SizeAndFlags true [])) (Over 42)) name)
          → Meets x (is ++ left) (pick (not b) (stops left name (fault 42)) (read_number 8 left short λ size left. read_number 4 left short λ flags left. zeroes name size (flags % 2 ^ 16) left))
      go true p = reaches_then p refl (terms_meets true left)
      go false p = meets_over p refl

  -- ---- the two magics
  module _ (input : List ℕ) where
    abbrev signature : List ℕ
    signature = take 8 input

    abbrev rest : List ℕ
    rest = drop 8 input

    parts : input ≡ signature ++ rest
    parts = sym (take-append-drop 8 input)

    style_taken : 8 ≤ length input → Moves turn (on (Shaking n (Style [])) name) signature []
        (on (pick (same_bytes signature IHAVEOPT) (Shaking n (Newstyle 2)) (pick (same_bytes signature OLDSTYLE) (machine.oldstyle n) (Over 41))) name)
    unfolding judge_style
    style_taken h =
        let l = length-take-le 8 input h in
        rw l at (gathered_run (λ got. Shaking n (Style got)) (judge_style n) 8 (style_part n) signature name (λ _. refl) l (omega arith))

    magic_taken : 8 ≤ length input → Moves turn (on (Shaking n (Magic [])) name) signature [] (on (pick (same_bytes signature NBDMAGIC) (Shaking n (Style [])) (Over 40)) name)
    unfolding judge_magic
    magic_taken h =
        let l = length-take-le 8 input h in
        rw l at (gathered_run (λ got. Shaking n (Magic got)) (judge_magic n) 8 (magic_part n) signature name (λ _. refl) l (omega arith))

    styled_meets : Meets (on (Shaking n (Style [])) name) input
        (read_exact 8 input short λ signature left.
        pick (same_bytes signature IHAVEOPT) (newstyle name left) (pick (same_bytes signature OLDSTYLE) (oldstyle name left) (stops left name (fault 41))))
    styled_meets =
        picked (Meets (on (Shaking n (Style [])) name) input) (leb 8 (length input)) (λ h. whole (same_bytes signature IHAVEOPT) (same_bytes signature OLDSTYLE) (style_taken (leb-true 8 (length input) h)))
        (λ h. meets_cut (part_run (λ got. Shaking n (Style got)) (judge_style n) 8 (style_part n) input name (λ _. refl) (leb-false 8 (length input) h)) refl refl)
      where
        whole : (a b : Bool) → Moves turn (on (Shaking n (Style [])) name) signature [] (on (pick a (Shaking n (Newstyle 2)) (pick b (machine.oldstyle n) (Over 41))) name)
            → Meets (on (Shaking n (Style [])) name) input (pick a (newstyle name rest) (pick b (oldstyle name rest) (stops rest name (fault 41))))
        whole true b p = reaches_then p parts (newstyle_meets rest)
        whole false true p = rw (take-append-drop 8 input) at (oldstyle_meets signature rest p)
        whole false false p = meets_over p parts

  pub handshake_meets : (input : List ℕ) → Meets (on (Shaking n (Magic [])) name) input (handshake name input)
  unfolding handshake
  handshake_meets input =
      picked (Meets (on (Shaking n (Magic [])) name) input) (leb 8 (length input)) (λ h. whole (same_bytes (take 8 input) NBDMAGIC) (magic_taken input (leb-true 8 (length input) h)))
      (λ h. meets_cut (part_run (λ got. Shaking n (Magic got)) (judge_magic n) 8 (magic_part n) input name (λ _. refl) (leb-false 8 (length input) h)) refl refl)
    where
      whole : (a : Bool) → Moves turn (on (Shaking n (Magic [])) name) (take 8 input) [] (on (pick a (Shaking n (Style [])) (Over 40)) name)
          → Meets (on (Shaking n (Magic [])) name) input
          (pick (not a) (stops (drop 8 input) name (fault 40))
          (read_exact 8 (drop 8 input) short λ signature left.
          pick (same_bytes signature IHAVEOPT) (newstyle name left) (pick (same_bytes signature OLDSTYLE) (oldstyle name left) (stops left name (fault 41)))))
      whole true p = reaches_then p (parts input) (styled_meets (drop 8 input))
      whole false p = meets_over p (parts input)
