-- `mycopy` where the reader has enough and every write succeeds: it copies `limit` bytes, whatever the parts.
--   copies        the loop
--   copied_read   READ inside the window; copied_write   WRITE inside the window, whose payload is there
--   sets_append   bytes stored one part after the other
use Prim.Native.Nat.{ℕ, zero, suc, min, ◌+◌, ◌-◌, ◌≤◌, ◌<◌}
use mathlib.Core.Path.{◌≡◌, refl, sym, ap, ◌∙◌}
use mathlib.Core.Bool.{Bool, true, false}
use mathlib.Core.List.{List, [], ◌∷◌, ◌++◌, append_assoc, append-nil}
use Rattle.std.specs.Prelude.{Some}
use native.Mathlib.Omega.{arith}
use borrow.Author.Tests.{eqb-true, eqb-false, le-ltb}
use lib.Dec.{eqb}
use lib.ListN.{length, take, drop, set, length-append, length-drop}
use lib.Seq.{sets, sets-eq, length-sets, length-take-le, take_all, take-add, drop-drop}
use Rattle.machine.specs.Choice.{pick}
use Rattle.machine.proofs.Runs.{positive}
use Rattle.original.specs.Leaves.{replyt}
use Rattle.original.specs.Copy.{Written, all, Copied, copied, buf, part, turns, mycopy, Cursor, fitting, put, write_all}
use Rattle.original.specs.Transmission.{to_wire}

pub sets_append : (l : List ℕ) (i : ℕ) (a b : List ℕ) → sets l i (a ++ b) ≡ sets (sets l i a) (i + length a) b
sets_append l i [] b = let e : i + 0 ≡ i = omega arith in rw e
sets_append l i (x ∷ a) b = let e : i + suc (length a) ≡ suc i + length a = omega arith in rw e (sets_append (set l i x) (suc i) a b)

module _ {D : Type 0} (write : D → List ℕ → Written D) where
  -- a part that is read and written
  part_done : (first : D → D) (bytes from : List ℕ) (to next : D) (limit count : ℕ) (more : List ℕ → D → ℕ → ℕ → Copied D) → 0 < length bytes → write (first to) bytes ≡ all next
      → part write first bytes from to limit count more
      ≡ pick (eqb (limit - length bytes) 0) (copied from next (Some (count + length bytes))) (more from next (limit - length bytes) (count + length bytes))
  part_done first [] from to next limit count more h e = absurd (omega arith)
  part_done first (b ∷ bytes) from to next limit count more h e = rw e

  -- f bytes: the writer once these bytes were written
  pub copies : (k limit count : ℕ) (first : D → D) (from : List ℕ) (to : D) (f : List ℕ → D) → limit ≤ k → 0 < limit → limit ≤ length from → first to ≡ f []
      → ((a b : List ℕ) → length a + length b ≤ limit → write (f a) b ≡ all (f (a ++ b)))
      → turns write k first from to limit count ≡ copied (drop limit from) (f (take limit from)) (Some (count + limit))
  unfolding turns
  copies zero limit count first from to f h more-than-0 enough start each = absurd (omega arith)
  copies (suc k) limit count first from to f h more-than-0 enough start each =
      let n : ℕ = min buf limit in
      let p : List ℕ = take n from in
      let l : length p ≡ n = length-take-le n from (omega arith) in
      let wrote : write (first to) p ≡ all (f p) = rw start (each [] p (omega arith)) in
      part_done first p (drop n from) to (f p) limit count (turns write k (λ same. same)) (omega arith) wrote ∙ go n p l (omega arith) refl (eqb (limit - length p) 0) refl
      (λ some_left. copies k (limit - length p) (count + length p) (λ same. same) (drop n from) (f p) (λ a. f (p ++ a)) (omega arith) some_left
      (omega (arith, length-drop n from)) (ap f (sym (append-nil p)))
      (λ a b fits. each (p ++ a) b (omega (arith, length-append p a)) ∙ ap (λ (a : List ℕ). all (f a)) (append_assoc p a b)))
    where
      go : (n : ℕ) (p : List ℕ) → length p ≡ n → n ≤ limit → p ≡ take n from → (b : Bool) → eqb (limit - length p) 0 ≡ b
          → (0 < limit - length p → turns write k (λ same. same) (drop n from) (f p) (limit - length p) (count + length p)
          ≡ copied (drop (limit - length p) (drop n from)) (f (p ++ take (limit - length p) (drop n from))) (Some (count + length p + (limit - length p))))
          → pick b (copied (drop n from) (f p) (Some (count + length p))) (turns write k (λ same. same) (drop n from) (f p) (limit - length p) (count + length p))
          ≡ copied (drop limit from) (f (take limit from)) (Some (count + limit))
      go n p l h t true e rest =
          let z = eqb-true (limit - length p) 0 e in
          let q : n ≡ limit = omega arith in
          let c : count + length p ≡ count + limit = omega arith in
          rw (c, t, q)
      go n p l h t false e rest =
          let q : n + (limit - length p) ≡ limit = omega arith in
          let c : count + length p + (limit - length p) ≡ count + limit = omega arith in
          let a : p ++ take (limit - length p) (drop n from) ≡ take limit from =
          ap (λ (x : List ℕ). x ++ take (limit - length p) (drop n from)) t ∙ sym (take-add n (limit - length p) from) ∙ ap (λ (i : ℕ). take i from) q in
          rest (positive (limit - length p) (eqb-false (limit - length p) 0 e)) ∙ rw (drop-drop (limit - length p) n from, q, a, c)

module _ (handle offset len : ℕ) (more-than-0 : 0 < len) where
  pub copied_read : (device : List ℕ) → offset + len ≤ length device
      → mycopy to_wire (λ sent. sent ++ replyt 0 handle) (drop offset device) [] len
      ≡ copied (drop len (drop offset device)) (replyt 0 handle ++ take len (drop offset device)) (Some len)
  copied_read device fits =
      let z : 0 + len ≡ len = omega arith in
      rw z at (copies to_wire len len 0 (λ sent. sent ++ replyt 0 handle) (drop offset device) [] (λ a. replyt 0 handle ++ a) (omega arith) more-than-0
      (omega (arith, length-drop offset device)) (sym (append-nil (replyt 0 handle))) (λ a b h. ap all (append_assoc (replyt 0 handle) a b)))

  -- the cursor once these bytes were written from the offset on
  abbrev at : List ℕ → List ℕ → Cursor
  at device a = record { bytes = sets device offset a; position = offset + length a }

  pub copied_write : (device left : List ℕ) → offset + len ≤ length device → len ≤ length left
      → mycopy write_all (λ same. same) left (record { bytes = device; position = offset }) len
      ≡ copied (drop len left) (record { bytes = sets device offset (take len left); position = offset + len }) (Some len)
  unfolding write_all
  copied_write device left fits there =
      let z : 0 + len ≡ len = omega arith in
      let o : offset + 0 ≡ offset = omega arith in
      let l = length-take-le len left there in
      rw (z, l) at (copies write_all len len 0 (λ same. same) left (record { bytes = device; position = offset }) (at device) (omega arith) more-than-0 there (rw o) each)
    where
      each : (a b : List ℕ) → length a + length b ≤ len → write_all (at device a) b ≡ all (at device (a ++ b))
      each a b h =
          let d = sets device offset a in
          let k = length-sets device offset a in
          let w : fitting (at device a) b ≡ b = take_all (length d - (offset + length a)) b (omega arith) in
          let p : offset + length a + length b ≡ offset + length (a ++ b) = omega (arith, length-append a b) in
          let s : (put (at device a) b).bytes ≡ sets device offset (a ++ b) = sym (sets-eq b d (offset + length a) (omega arith)) ∙ sym (sets_append device offset a b) in
          rw (w, le-ltb (length b) (length b) (omega arith), s, p)
