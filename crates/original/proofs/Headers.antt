-- A request's fields, read one after the other.
--   front          bytes that begin with a field: its number, and what is left
--   header_short, header_other, header_whole   too few bytes; another magic; all 28
--   behind1 .. behind6   what is left after each field
--   layout         the 28 bytes are those of a request with these fields
use Prim.Native.Nat.{ℕ, ◌+◌, ◌≤◌, ◌<◌}
use mathlib.Core.Path.{◌≡◌, refl, sym, ap, ◌∙◌}
use mathlib.Core.Bool.{Bool, true, false}
use mathlib.Core.Logic.{◌⊎◌, inl, inr}
use mathlib.Core.List.{List, ◌++◌}
use native.Mathlib.Omega.{arith}
use borrow.Author.Tests.{le-leb, lt-leb, leb-true, eq-eqb, ne_eqb}
use lib.Dec.{leb}
use lib.ListN.{length, take, drop, length-drop, take-append-drop}
use lib.Seq.{length-take-le}
use Rattle.machine.specs.Choice.{pick}
use Rattle.wire.specs.Fields.{be, number, Bytes}
use Rattle.wire.specs.Constants.{NBD_REQUEST_MAGIC}
use Rattle.wire.specs.Layouts.{request}
use Rattle.wire.proofs.BigEndian.{be_number, bytes_take, bytes_drop, field_lt}
use Rattle.server.specs.Exchanges.{Fits}
use Rattle.original.specs.Connection.{read_number}
use Rattle.original.specs.Transmission.{header}

pub front : (n : ℕ) (l : List ℕ) → Bytes l → n ≤ length l → l ≡ be n (number (take n l)) ++ drop n l
front n l b h =
    let e : be n (number (take n l)) ≡ take n l = rw (length-take-le n l h) at (be_number (take n l) (bytes_take n l b)) in
    rw e (sym (take-append-drop n l))

-- ---- what is left after the magic, the flags, the type, the handle, the offset and the length
abbrev pub behind1 : List ℕ → List ℕ
behind1 input = drop 4 input

abbrev pub behind2 : List ℕ → List ℕ
behind2 input = drop 2 (behind1 input)

abbrev pub behind3 : List ℕ → List ℕ
behind3 input = drop 2 (behind2 input)

abbrev pub behind4 : List ℕ → List ℕ
behind4 input = drop 8 (behind3 input)

abbrev pub behind5 : List ℕ → List ℕ
behind5 input = drop 8 (behind4 input)

abbrev pub behind6 : List ℕ → List ℕ
behind6 input = drop 4 (behind5 input)

pub record Lengths (input : List ℕ) : Type 0 where
  pub one : length (behind1 input) + 4 ≡ length input
  pub two : length (behind2 input) + 6 ≡ length input
  pub three : length (behind3 input) + 8 ≡ length input
  pub four : length (behind4 input) + 16 ≡ length input
  pub five : length (behind5 input) + 24 ≡ length input

lengths : (input : List ℕ) → 28 ≤ length input → Lengths input
lengths input h =
    let a = length-drop 4 input in
    let b = length-drop 2 (behind1 input) in
    let c = length-drop 2 (behind2 input) in
    let d = length-drop 8 (behind3 input) in
    let e = length-drop 8 (behind4 input) in
    record { one = omega arith; two = omega arith; three = omega arith; four = omega arith; five = omega arith }

module _ {R : Type 0} (input : List ℕ) (short : R) (other : List ℕ → R) (then : ℕ → ℕ → ℕ → ℕ → List ℕ → R) where
  pub header_whole : 28 ≤ length input → number (take 4 input) ≡ NBD_REQUEST_MAGIC
      → header input short other then
      ≡ then (number (take 2 (behind2 input))) (number (take 8 (behind3 input))) (number (take 8 (behind4 input))) (number (take 4 (behind5 input))) (behind6 input)
  header_whole h e =
      let l = lengths input h in
      rw (
        le-leb 4 (length input) (omega arith),
        eq-eqb (number (take 4 input)) NBD_REQUEST_MAGIC e,
        le-leb 2 (length (behind1 input)) (omega arith),
        le-leb 2 (length (behind2 input)) (omega arith),
        le-leb 8 (length (behind3 input)) (omega arith),
        le-leb 8 (length (behind4 input)) (omega arith),
        le-leb 4 (length (behind5 input)) (omega arith),
      )

  pub header_other : 4 ≤ length input → (number (take 4 input) ≡ NBD_REQUEST_MAGIC → ⊥) → header input short other then ≡ other (drop 4 input)
  header_other h n = rw (le-leb 4 (length input) h, ne_eqb (number (take 4 input)) NBD_REQUEST_MAGIC n)

-- ---- too few bytes for some fields in a row
module _ {R : Type 0} (short : R) where
  abbrev Short : ℕ → (List ℕ → R) → Type 0
  Short n f = (l : List ℕ) → length l < n → f l ≡ short

  field_short : (n k : ℕ) (f : ℕ → List ℕ → R) → ((x : ℕ) → Short k (f x)) → Short (n + k) (λ l. read_number n l short f)
  field_short n k f more l h = go (leb n (length l)) refl
    where
      go : (b : Bool) → leb n (length l) ≡ b → pick b (f (number (take n l)) (drop n l)) short ≡ short
      go true e = more (number (take n l)) (drop n l) (omega (arith, length-drop n l, leb-true n (length l) e))
      go false e = refl

  last_short : (n : ℕ) (f : ℕ → List ℕ → R) → Short n (λ l. read_number n l short f)
  last_short n f l h = rw (lt-leb n (length l) h)

  pub header_short : (input : List ℕ) (other : List ℕ → R) (then : ℕ → ℕ → ℕ → ℕ → List ℕ → R) → length input < 28
      → (length input < 4) ⊎ (number (take 4 input) ≡ NBD_REQUEST_MAGIC) → header input short other then ≡ short
  header_short input other then h (inl a) = rw (lt-leb 4 (length input) a)
  header_short input other then h (inr e) = go (leb 4 (length input)) refl
    where
      rest : Short 24 (λ l. read_number 2 l short λ flags l. read_number 2 l short λ typ l. read_number 8 l short λ handle l. read_number 8 l short λ offset l. read_number 4 l short λ len l. then typ handle offset len l)
      rest =
          field_short 2 22 _ λ flags. field_short 2 20 _ λ typ. field_short 8 12 _ λ handle. field_short 8 4 _ λ offset. last_short 4 (λ len l. then typ handle offset len l)

      go : (b : Bool) → leb 4 (length input) ≡ b → header input short other then ≡ short
      go true p = rw (p, eq-eqb (number (take 4 input)) NBD_REQUEST_MAGIC e) (rest (drop 4 input) (omega (arith, length-drop 4 input)))
      go false p = rw p

-- ---- all 28 bytes
module _ (input : List ℕ) (bytes : Bytes input) (enough : 28 ≤ length input) where
  pub layout : number (take 4 input) ≡ NBD_REQUEST_MAGIC
      → input ≡ request (number (take 2 (behind1 input))) (number (take 2 (behind2 input))) (number (take 8 (behind3 input))) (number (take 8 (behind4 input))) (number (take 4 (behind5 input)))
      ++ behind6 input
  unfolding request be
  layout e =
      let l = lengths input enough in
      let b1 = bytes_drop 4 input bytes in
      let b2 = bytes_drop 2 (behind1 input) b1 in
      let b3 = bytes_drop 2 (behind2 input) b2 in
      let b4 = bytes_drop 8 (behind3 input) b3 in
      let b5 = bytes_drop 8 (behind4 input) b4 in
      let magic : input ≡ be 4 NBD_REQUEST_MAGIC ++ behind1 input = front 4 input bytes (omega arith) ∙ ap (λ (n : ℕ). be 4 n ++ behind1 input) e in
      magic
      ∙ ap (λ (x : List ℕ). be 4 NBD_REQUEST_MAGIC ++ x) (front 2 (behind1 input) b1 (omega arith)
      ∙ ap (λ (x : List ℕ). be 2 (number (take 2 (behind1 input))) ++ x) (front 2 (behind2 input) b2 (omega arith)
      ∙ ap (λ (x : List ℕ). be 2 (number (take 2 (behind2 input))) ++ x) (front 8 (behind3 input) b3 (omega arith)
      ∙ ap (λ (x : List ℕ). be 8 (number (take 8 (behind3 input))) ++ x) (front 8 (behind4 input) b4 (omega arith)
      ∙ ap (λ (x : List ℕ). be 8 (number (take 8 (behind4 input))) ++ x) (front 4 (behind5 input) b5 (omega arith))))))

  pub fields_fit : Fits (number (take 2 (behind2 input))) (number (take 8 (behind3 input))) (number (take 8 (behind4 input))) (number (take 4 (behind5 input)))
  fields_fit =
      let b2 = bytes_drop 2 (behind1 input) (bytes_drop 4 input bytes) in
      let b3 = bytes_drop 2 (behind2 input) b2 in
      let b4 = bytes_drop 8 (behind3 input) b3 in
      let b5 = bytes_drop 8 (behind4 input) b4 in
      record {
        type_fits = field_lt (behind2 input) 0 2 b2;
        handle_fits = field_lt (behind3 input) 0 8 b3;
        offset_fits = field_lt (behind4 input) 0 8 b4;
        len_fits = field_lt (behind5 input) 0 4 b5;
      }
