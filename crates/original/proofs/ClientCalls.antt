-- A call of document 000's client and the machine's.
--   asks_sent        the request and its payload are sent before anything is taken
--   reply_meets      `getreply`
--   exchange_meets   a request, its reply, and what follows: closed_meets, nothing; fill_meets, a read's data
use Prim.Native.Nat.{ℕ, suc, ◌+◌, ◌-◌, ◌≤◌, ◌<◌}
use mathlib.Core.Path.{◌≡◌, refl, sym}
use mathlib.Core.Bool.{Bool, true, false, not}
use mathlib.Core.List.{List, [], ◌∷◌, ◌++◌}
use native.Mathlib.Omega.{arith}
use borrow.Author.Tests.{leb-true, leb-false}
use lib.Dec.{eqb, leb}
use lib.ListN.{length, take, drop, length-drop, take-append-drop}
use lib.Seq.{sets, sets-eq, length-take-le, drop-drop}
use Rattle.machine.specs.Choice.{pick}
use Rattle.machine.specs.Machine.{On, on, Moves, still}
use Rattle.machine.proofs.Moves.{then}
use Rattle.wire.specs.Fields.{number}
use Rattle.wire.specs.Constants.{NBD_REPLY_MAGIC}
use Rattle.server.proofs.Kept.{picked}
use Rattle.client.specs.Calls.{payload, wanted, request_bytes, value_of, moved}
use Rattle.client.specs.Contract.{values_in}
use Rattle.client.specs.Session.{State, Asking, Hearing, Calling, Closed, Over, paying, after_request, filling, replied, heard, turn}
use Rattle.client.specs.declared.state.Device.{Device}
use Rattle.client.specs.declared.state.Call.{Call}
use Rattle.client.specs.declared.state.Call.TheVariants.{Read}
use Rattle.client.specs.declared.state.Outcome.TheVariants.{Succeeded, Failed}
use Rattle.client.proofs.Header.{take_part, reply_part}
use Rattle.client.proofs.Runs.{length_asks, fills}
use Rattle.client.proofs.Alone.{owed_run, gathered_run}
use Rattle.original.specs.Client.{at, Done, stops, ok, fault, failed, getreply, exchange, fill}
use Rattle.original.proofs.Reaches.{reaches_then}
use Rattle.original.proofs.ClientMeets.{client_of, Meets, meets_closed, meets_over, meets_cut, part_run}

module _ (d : Device) (c : Call) (m : List ℕ) where
  pub asks_sent : payload c ≤ length m → Moves turn (on (Calling d c (Asking 28)) m) [] (request_bytes d c ++ take (payload c) m) (on (Calling d c (Hearing [])) m)
  asks_sent fits =
      then (owed_run (after_request d c) (request_bytes d c) m (λ _. refl) 28 (sym (length_asks d c)))
      (owed_run (paying d c) (take (payload c) m) m (λ _. refl) (payload c) (sym (length-take-le (payload c) m fits)))

  abbrev hearing : On State
  hearing = on (Calling d c (Hearing [])) m

  -- ---- the reply
  module _ (input : List ℕ) (more : List ℕ → Done) (goes_on : (left : List ℕ) → Meets (on (filling d c (wanted c)) m) left (more left)) where
    abbrev behind1 : List ℕ
    behind1 = drop 4 input

    abbrev behind2 : List ℕ
    behind2 = drop 4 behind1

    abbrev behind3 : List ℕ
    behind3 = drop 8 behind2

    abbrev signature : ℕ
    signature = number (take 4 input)

    abbrev error : ℕ
    error = number (take 4 behind1)

    abbrev handle : ℕ
    handle = number (take 8 behind2)

    cut : length input < 16 → Meets hearing input (stops [] m (fault 50))
    cut h = meets_cut (part_run (λ l. Calling d c (Hearing l)) (heard d c) 16 (reply_part d c) input m (λ _. refl) h) refl refl

    module _ (enough : 16 ≤ length input) where
      parts : input ≡ take 16 input ++ behind3
      parts = sym (rw (← drop-drop 8 8 input, ← drop-drop 4 4 input) at (take-append-drop 16 input))

      judged : Moves turn hearing (take 16 input) [] (on (pick (eqb signature NBD_REPLY_MAGIC) (pick (eqb handle 0) (pick (eqb error 0) (filling d c (wanted c)) (Closed (Failed error) d)) (Over 46)) (Over 45)) m)
      unfolding heard replied
      judged =
          rw (length-take-le 16 input enough, take_part 0 4 16 input (omega arith), take_part 8 8 16 input (omega arith), take_part 4 4 16 input (omega arith), ← drop-drop 4 4 input) at
          (gathered_run (λ l. Calling d c (Hearing l)) (heard d c) 16 (reply_part d c) (take 16 input) m (λ _. refl) (length-take-le 16 input enough) (omega arith))

      whole : Meets hearing input
          (pick (not (eqb signature NBD_REPLY_MAGIC)) (stops behind3 m (fault 45))
          (pick (not (eqb handle 0)) (stops behind3 m (fault 46)) (pick (not (eqb error 0)) (stops behind3 m (failed error (client_of d))) (more behind3))))
      whole = go (eqb signature NBD_REPLY_MAGIC) (eqb handle 0) (eqb error 0) judged
        where
          go : (a b e : Bool) → Moves turn hearing (take 16 input) [] (on (pick a (pick b (pick e (filling d c (wanted c)) (Closed (Failed error) d)) (Over 46)) (Over 45)) m)
              → Meets hearing input
              (pick (not a) (stops behind3 m (fault 45)) (pick (not b) (stops behind3 m (fault 46)) (pick (not e) (stops behind3 m (failed error (client_of d))) (more behind3))))
          go false b e p = meets_over p parts
          go true false e p = meets_over p parts
          go true true false p = meets_closed (Failed error) d p parts
          go true true true p = reaches_then p parts (goes_on behind3)

    pub reply_meets : Meets hearing input (getreply input (stops [] m (fault 50)) (λ n left. stops left m (fault n)) (λ error left. stops left m (failed error (client_of d))) more)
    reply_meets =
        let l1 = length-drop 4 input in
        let l2 = length-drop 4 behind1 in
        picked (Meets hearing input) (leb 4 (length input))
        (λ a.
        let a' = leb-true 4 (length input) a in
        picked (Meets hearing input) (leb 4 (length behind1))
        (λ b.
        let b' = leb-true 4 (length behind1) b in
        picked (Meets hearing input) (leb 8 (length behind2))
        (λ e. let e' = leb-true 8 (length behind2) e in whole (omega arith))
        (λ e. let e' = leb-false 8 (length behind2) e in cut (omega arith)))
        (λ b. let b' = leb-false 4 (length behind1) b in cut (omega arith)))
        (λ a. let a' = leb-false 4 (length input) a in cut (omega arith))

  pub exchange_meets : payload c ≤ length m → (input : List ℕ) (more : List ℕ → Done) → ((left : List ℕ) → Meets (on (filling d c (wanted c)) m) left (more left))
      → Meets (on (Calling d c (Asking 28)) m) input (exchange (client_of d) (request_bytes d c ++ take (payload c) m) m input more)
  exchange_meets fits input more goes_on = reaches_then (asks_sent fits) refl (reply_meets input more goes_on)

-- ---- what follows the reply
-- nothing: the call is closed
pub closed_meets : (d : Device) (c : Call) (m left : List ℕ) → wanted c ≡ 0 → Meets (on (filling d c (wanted c)) m) left (stops left m (ok (values_in (value_of c)) (client_of (moved d c))))
closed_meets d c m left none-wanted = rw none-wanted (meets_closed (Succeeded (value_of c)) (moved d c) still refl)

-- a read's data
pub fill_meets : (d : Device) (n len : ℕ) (m left : List ℕ) → n ≤ length m → Meets (on (filling d (Read n len) n) m) left (fill (client_of d) n m left)
fill_meets d n len m left fits = picked (Meets (on (filling d (Read n len) n) m) left) (leb n (length left)) (λ h. whole (leb-true n (length left) h)) (λ h. part (leb-false n (length left) h))
  where
    -- the buffer, from its first byte on
    filled : (is : List ℕ) → length is ≤ length m → sets m (n - n) is ≡ is ++ drop (length is) m
    filled is h =
        let z : n - n ≡ 0 = omega arith in
        let k : 0 + length is ≡ length is = omega arith in
        rw z (rw k at (sets-eq is m 0 (omega arith)))

    whole : n ≤ length left → Meets (on (filling d (Read n len) n) m) left (stops (drop n left) (take n left ++ drop n m) (ok (n ∷ []) (at (client_of d) (d.position + n))))
    whole h =
        let l = length-take-le n left h in
        let b : sets m (n - n) (take n left) ≡ take n left ++ drop n m = rw l at (filled (take n left) (omega arith)) in
        meets_closed (Succeeded (value_of (Read n len))) (moved d (Read n len)) (rw b at (fills d (Read n len) (take n left) n 0 m (omega arith) (omega arith))) (sym (take-append-drop n left))

    part : length left < n → Meets (on (filling d (Read n len) n) m) left (stops [] (left ++ drop (length left) m) (fault 50))
    part h = meets_cut (rw (filled left (omega arith)) at (fills d (Read n len) left n (suc (n - suc (length left))) m (omega arith) (omega arith))) refl refl
