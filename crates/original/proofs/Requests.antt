-- A request of document 000's `transmission` and the machine's, in the domain.
--   above          a number at or above another, and not it
--   Step           what one turn of the loop says, the machine does
--   step_command   the match on the type
--   step_request   a request, or what there is of one
use Prim.Native.Nat.{ℕ, suc, ◌+◌, ◌^◌, ◌≤◌, ◌<◌}
use mathlib.Core.Path.{◌≡◌, refl, sym, ap, ◌∙◌}
use mathlib.Core.Bool.{Bool, true, false}
use mathlib.Core.Logic.{◌⊎◌, inl, inr}
use mathlib.Core.List.{List, [], ◌∷◌, ◌++◌, append_assoc}
use native.Mathlib.Omega.{arith}
use borrow.Author.Tests.{eqb-true, eqb-false, eq-eqb, ltb-false, lt-ltb, leb-true, leb-false}
use lib.Dec.{eqb, ltb, leb}
use lib.ListN.{length, take, drop, set, length-append, take-append-drop}
use lib.Seq.{sets, length-take-le, drop-drop, drop-set-add, take-set-lt}
use Rattle.machine.specs.Choice.{both, either}
use Rattle.machine.specs.Machine.{on, Moves}
use Rattle.machine.proofs.Runs.{positive}
use Rattle.wire.specs.Fields.{be, number, Bytes}
use Rattle.wire.specs.Layouts.{request, simple_reply}
use Rattle.wire.specs.Table.{read_only}
use Rattle.wire.specs.declared.table.Export.{Export}
use Rattle.server.specs.Session.{State, Header, Serving, Over, window, turn}
use Rattle.server.specs.Exchanges.{UnknownType}
use Rattle.server.proofs.Kept.{picked}
use Rattle.server.proofs.Window.{window_length}
use Rattle.server.proofs.Requests.{whole_other_magic, whole_read_nothing, whole_read, whole_write_nothing, whole_write, whole_disc, whole_flush, whole_trim, whole_write_zeroes, whole_unknown_request}
use Rattle.original.specs.Consts.{NBD_REQUEST_MAGIC, NBD_CMD_READ, NBD_CMD_WRITE}
use Rattle.original.specs.Leaves.{table_fields, replyt}
use Rattle.original.specs.Connection.{ended}
use Rattle.original.specs.Copy.{turns}
use Rattle.original.specs.Transmission.{Next, again, stop, fails, reads, writes, after_read, command, one_request}
use Rattle.original.specs.Server.{windowed, passes, excluded, excluded_at}
use Rattle.original.proofs.Leaves.{same_readonly, same_reply}
use Rattle.original.proofs.Meets.{Meets, meets_over, meets_cut}
use Rattle.original.proofs.Copies.{copied_read, copied_write}
use Rattle.original.proofs.Headers.{header_whole, header_other, header_short, behind1, behind2, behind3, behind4, behind5, behind6, layout, fields_fit}
use Rattle.original.proofs.Parts.{request_part, magic_part}

-- ---- tests
neither : (a b : Bool) → either a b ≡ false → (a ≡ false) × (b ≡ false)
neither true b e = absurd (let z : ◌≡◌ {A = ℕ} 0 1 = cc in omega arith)
neither false b e = (refl, e)

second : (a b : Bool) → a ≡ true → both a b ≡ false → b ≡ false
second true b p e = e
second false b p e = absurd (let z : ◌≡◌ {A = ℕ} 0 1 = cc in omega arith)

not_past : (e : Export) (offset len : ℕ) → passes e offset len ≡ false → 0 < len → offset + len ≤ e.size
not_past e offset len h p = ltb-false e.size (offset + len) (second (ltb 0 len) (ltb e.size (offset + len)) (lt-ltb 0 len p) h)

pub above : (k n : ℕ) → k ≤ n → (n ≡ k → ⊥) → k + 1 ≤ n
above k n h d = omega arith

unknown : (typ : ℕ) → (typ ≡ 0 → ⊥) → (typ ≡ 1 → ⊥) → (typ ≡ 2 → ⊥) → (typ ≡ 3 → ⊥) → (typ ≡ 4 → ⊥) → (typ ≡ 6 → ⊥) → UnknownType typ
unknown typ a b c d f g = go (eqb typ 5) refl (above 4 typ (above 3 typ (above 2 typ (above 1 typ (above 0 typ (omega arith) a) b) c) d) f)
  where
    go : (x : Bool) → eqb typ 5 ≡ x → 5 ≤ typ → UnknownType typ
    go true h p = inl (eqb-true typ 5 h)
    go false h p = inr (above 6 typ (above 5 typ p (eqb-false typ 5 h)) g)

-- ---- the window in the image
pub windowed_window : (m : List ℕ) (e : Export) → windowed m e (window e m) ≡ m
windowed_window m e =
    rw (← drop-drop e.size e.start m, append_assoc (take e.start m) (window e m) (drop e.size (drop e.start m)), take-append-drop e.size (drop e.start m)) (take-append-drop e.start m)

pub window_sets : (e : Export) (bs m : List ℕ) (off : ℕ) → off + length bs ≤ e.size → sets (window e m) off bs ≡ window e (sets m (e.start + off) bs)
window_sets e [] m off h = refl
window_sets e (b ∷ bs) m off h =
    let i : suc (e.start + off) ≡ e.start + suc off = omega arith in
    let w : set (window e m) off b ≡ window e (set m (e.start + off) b) =
    sym (ap (take e.size) (drop-set-add e.start m off b) ∙ take-set-lt e.size (drop e.start m) off b (omega arith)) in
    rw (w, i) (window_sets e bs (set m (e.start + off) b) (suc off) (omega arith))

some_request : (flags typ handle offset len : ℕ) → 0 < length (request flags typ handle offset len)
unfolding request be
some_request flags typ handle offset len = omega arith

module _ (t m : List ℕ) (e : Export) where
  abbrev ready : State
  ready = Serving e (Header [])

  -- a request was answered: so did the machine, and the device is the window of its image
  pub record Went (input sent device left : List ℕ) : Type 0 where
    pub taken : List ℕ
    pub image : List ℕ
    pub all_in : input ≡ taken ++ left
    pub some_taken : 0 < length taken
    pub moves : Moves (turn t) (on ready m) taken sent (on ready image)
    pub holds : device ≡ window e image

  abbrev pub Step : List ℕ → Next → Type 0
  Step input (again sent device left) = Went input sent device left
  Step input (stop sent device left outcome) =
      Meets t (on ready m) input (record { left = left; sent = sent; device = windowed m e device; outcome = outcome })

  module _ (flags handle offset : ℕ) (left : List ℕ) (handle_fits : handle < 2 ^ 64) (offset_fits : offset < 2 ^ 64) (inside : e.start + e.size ≤ length m) where
    abbrev asks : ℕ → ℕ → List ℕ
    asks typ len = request flags typ handle offset len ++ left

    -- a request that leaves the image
    answered : (typ len : ℕ) {sent : List ℕ} → Moves (turn t) (on ready m) (request flags typ handle offset len) sent (on ready m) → Went (asks typ len) sent (window e m) left
    answered typ len p = record {
      taken = request flags typ handle offset len;
      image = m;
      all_in = refl;
      some_taken = some_request flags typ handle offset len;
      moves = p;
      holds = refl;
    }

    -- one with a reply alone
    replied : (typ len error : ℕ) → Moves (turn t) (on ready m) (request flags typ handle offset len) (simple_reply error handle) (on ready m)
        → Went (asks typ len) (replyt error handle) (window e m) left
    replied typ len error p = rw (same_reply error handle) (answered typ len p)

    -- one that ends the session
    over : (typ len n : ℕ) → Moves (turn t) (on ready m) (request flags typ handle offset len) [] (on (Over n) m) → Step (asks typ len) (stop [] (window e m) left (ended n))
    over typ len n p = rw (windowed_window m e) (meets_over t p refl)

    module _ (len : ℕ) (len_fits : len < 2 ^ 32) where
      -- ---- READ
      step_read : passes e offset len ≡ false → Step (asks NBD_CMD_READ len) (reads handle offset len (window e m) left)
      unfolding turns
      step_read h = go (eqb len 0) refl
        where
          go : (b : Bool) → eqb len 0 ≡ b → Step (asks NBD_CMD_READ len) (reads handle offset len (window e m) left)
          go true q = rw (eqb-true len 0 q) (answered NBD_CMD_READ 0 (whole_read_nothing t m e flags handle offset handle_fits offset_fits))
          go false q =
              let some-len = positive len (eqb-false len 0 q) in
              let fits = not_past e offset len h some-len in
              let c : reads handle offset len (window e m) left ≡ again (replyt 0 handle ++ take len (drop offset (window e m))) (window e m) left =
              ap (after_read len (window e m) left) (copied_read handle offset len some-len (window e m) (rw (window_length e m inside) fits)) ∙ rw (eq-eqb len len refl) in
              rw (c, same_reply 0 handle)
              (answered NBD_CMD_READ len (whole_read t m e flags handle offset handle_fits offset_fits len len_fits some-len fits inside))

      -- ---- WRITE
      wrote : read_only e.flags ≡ false → 0 < len → offset + len ≤ e.size → len ≤ length left
          → Went (asks NBD_CMD_WRITE len) (simple_reply 0 handle) (sets (window e m) offset (take len left)) (drop len left)
      wrote writable some-len fits there =
          let payload = take len left in
          let l : length payload ≡ len = length-take-le len left there in
          record {
            taken = request flags NBD_CMD_WRITE handle offset len ++ payload;
            image = sets m (e.start + offset) payload;
            all_in = rw (append_assoc (request flags NBD_CMD_WRITE handle offset len) payload (drop len left), take-append-drop len left);
            some_taken = omega (arith, some_request flags NBD_CMD_WRITE handle offset len, length-append (request flags NBD_CMD_WRITE handle offset len) payload);
            moves = rw l at (whole_write t m e flags handle offset handle_fits offset_fits payload (omega arith) (omega arith) writable (omega arith));
            holds = window_sets e payload m offset (omega arith);
          }

      step_write : passes e offset len ≡ false → read_only e.flags ≡ false → len ≤ length left → Step (asks NBD_CMD_WRITE len) (writes handle offset len (window e m) left)
      unfolding turns
      step_write h writable there = go (eqb len 0) refl
        where
          go : (b : Bool) → eqb len 0 ≡ b → Step (asks NBD_CMD_WRITE len) (writes handle offset len (window e m) left)
          go true q = rw (eqb-true len 0 q) (replied NBD_CMD_WRITE 0 0 (whole_write_nothing t m e flags handle offset handle_fits offset_fits writable))
          go false q =
              let some-len = positive len (eqb-false len 0 q) in
              let fits = not_past e offset len h some-len in
              rw (copied_write handle offset len some-len (window e m) left (rw (window_length e m inside) fits) there, eq-eqb len len refl, same_reply 0 handle) (wrote writable some-len fits there)

      -- ---- the match on the type
      pub step_command : (typ : ℕ) → typ < 2 ^ 16 → excluded e typ offset len left ≡ false → Step (asks typ len) (command typ handle offset len (window e m) left)
      unfolding command
      step_command typ fits h =
          picked (Step (asks typ len)) (eqb typ 0)
          (λ q0. let r = rw (eqb-true typ 0 q0) at h in rw (eqb-true typ 0 q0) (step_read (neither (passes e offset len) false r).0))
          λ q0.
          picked (Step (asks typ len)) (eqb typ 1)
          (λ q1. let r = rw (eqb-true typ 1 q1) at h in
          let a = neither (passes e offset len) (either (table_fields e.flags).readonly (ltb (length left) len)) r in
          let b = neither (table_fields e.flags).readonly (ltb (length left) len) a.1 in
          rw (eqb-true typ 1 q1) (step_write a.0 (rw (same_readonly e.flags) at b.0) (ltb-false (length left) len b.1)))
          λ q1.
          picked (Step (asks typ len)) (eqb typ 2) (λ q. rw (eqb-true typ 2 q) (over 2 len 0 (whole_disc t m e flags handle offset handle_fits offset_fits len len_fits)))
          λ q2.
          picked (Step (asks typ len)) (eqb typ 3) (λ q. rw (eqb-true typ 3 q) (replied 3 len 0 (whole_flush t m e flags handle offset handle_fits offset_fits len len_fits)))
          λ q3.
          picked (Step (asks typ len)) (eqb typ 4) (λ q. rw (eqb-true typ 4 q) (replied 4 len 38 (whole_trim t m e flags handle offset handle_fits offset_fits len len_fits)))
          λ q4.
          picked (Step (asks typ len)) (eqb typ 6) (λ q. rw (eqb-true typ 6 q) (replied 6 len 38 (whole_write_zeroes t m e flags handle offset handle_fits offset_fits len len_fits)))
          λ q6.
          over typ len 11 (whole_unknown_request t m e flags handle offset handle_fits offset_fits len len_fits typ fits
          (unknown typ (eqb-false typ 0 q0) (eqb-false typ 1 q1) (eqb-false typ 2 q2) (eqb-false typ 3 q3) (eqb-false typ 4 q4) (eqb-false typ 6 q6)))

  -- ---- a request, or what there is of one
  module _ (input : List ℕ) (bytes : Bytes input) (inside : e.start + e.size ≤ length m) where
    same_input : {l : List ℕ} (n : Next) → input ≡ l → Step l n → Step input n
    same_input n q p = rw q p

    whole_request : 28 ≤ length input → number (take 4 input) ≡ NBD_REQUEST_MAGIC → excluded_at e input ≡ false → Step input (one_request (window e m) input)
    unfolding one_request
    whole_request enough magic h =
        let w = window e m in
        let f = fields_fit input bytes enough in
        let x = rw (header_whole input false (λ left. false) (λ typ handle offset len left. excluded e typ offset len left) enough magic) at h in
        rw (header_whole input (fails 12 w []) (fails 10 w) (λ typ handle offset len left. command typ handle offset len w left) enough magic)
        (same_input (command (number (take 2 (behind2 input))) (number (take 8 (behind3 input))) (number (take 8 (behind4 input))) (number (take 4 (behind5 input))) w (behind6 input))
        (layout input bytes enough magic)
        (step_command (number (take 2 (behind1 input))) (number (take 8 (behind3 input))) (number (take 8 (behind4 input))) (behind6 input) f.handle_fits f.offset_fits inside
        (number (take 4 (behind5 input))) f.len_fits (number (take 2 (behind2 input))) f.type_fits x))

    cut : length input < 28 → (length input < 4) ⊎ (number (take 4 input) ≡ NBD_REQUEST_MAGIC)
        → Moves (turn t) (on ready m) input [] (on (Serving e (Header input)) m) → Step input (one_request (window e m) input)
    unfolding one_request
    cut h why p =
        let w = window e m in
        rw (header_short (fails 12 w []) input (fails 10 w) (λ typ handle offset len left. command typ handle offset len w left) h why, windowed_window m e) (meets_cut t p refl refl)

    other : 4 ≤ length input → (number (take 4 input) ≡ NBD_REQUEST_MAGIC → ⊥) → Step input (one_request (window e m) input)
    unfolding one_request
    other h n =
        let w = window e m in
        rw (header_other input (fails 12 w []) (fails 10 w) (λ typ handle offset len left. command typ handle offset len w left) h n, windowed_window m e)
        (meets_over t (whole_other_magic t m e (take 4 input) (length-take-le 4 input h) n) (sym (take-append-drop 4 input)))

    pub step_request : excluded_at e input ≡ false → Step input (one_request (window e m) input)
    step_request h = go (leb 4 (length input)) refl (eqb (number (take 4 input)) NBD_REQUEST_MAGIC) refl (leb 28 (length input)) refl
      where
        go : (a : Bool) → leb 4 (length input) ≡ a → (b : Bool) → eqb (number (take 4 input)) NBD_REQUEST_MAGIC ≡ b → (c : Bool) → leb 28 (length input) ≡ c
            → Step input (one_request (window e m) input)
        go false p b q c r = let short = leb-false 4 (length input) p in cut (omega arith) (inl short) (request_part t m e input short)
        go true p false q c r = other (leb-true 4 (length input) p) (eqb-false (number (take 4 input)) NBD_REQUEST_MAGIC q)
        go true p true q false r =
            let short = leb-false 28 (length input) r in
            let magic = eqb-true (number (take 4 input)) NBD_REQUEST_MAGIC q in
            cut short (inr magic) (magic_part t m e input (leb-true 4 (length input) p) short magic)
        go true p true q true r = whole_request (leb-true 28 (length input) r) (eqb-true (number (take 4 input)) NBD_REQUEST_MAGIC q) h
