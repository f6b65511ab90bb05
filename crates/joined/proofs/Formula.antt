-- 01's formula counts the bytes that are carried.
--   length_question, length_answer   of one call
--   length_questions, length_answers  of a list of calls
use Prim.Native.Nat.{ℕ, zero, suc, ◌+◌}
use mathlib.Core.Path.{◌≡◌, refl, ◌∙◌}
use Rattle.machine.specs.Choice.{pick}
use mathlib.Core.List.{List, [], ◌∷◌, ◌++◌}
use Rattle.std.specs.Prelude.{Option, None, Some}
use native.Mathlib.Omega.{arith}
use lib.ListN.{length, take, drop, length-append, length-drop}
use lib.Seq.{length-take-le}
use Rattle.wire.specs.Fields.{be}
use Rattle.wire.specs.Constants.{NBD_CMD_READ, NBD_CMD_WRITE, NBD_CMD_TRIM}
use Rattle.wire.specs.Layouts.{request, simple_reply}
use Rattle.server.proofs.Session.{length_reply}
use Rattle.joined.specs.Disk.{Disk, here, Call, read, write, seek, flush, trim, transfer, after}
use Rattle.joined.specs.Carried.{if_moves, up, down, ups, downs}
use Rattle.joined.specs.Said.{if_sent, asking, question, answer, questions, answers}
use Rattle.joined.proofs.Calls.{grants}

length_request : (type offset n : ℕ) → length (request 0 type 0 offset n) ≡ 28
unfolding request be
length_request type offset n = refl

-- as many bytes, whatever the call moves
sent : (k : Disk) (len : ℕ) (f : ℕ → List ℕ) (g : ℕ → ℕ) → ((n : ℕ) → transfer k len ≡ Some (suc n) → length (f (suc n)) ≡ g (suc n))
    → length (if_sent (transfer k len) f) ≡ if_moves (transfer k len) g
sent k len f g h = go (transfer k len) h
  where
    go : (o : Option ℕ) → ((n : ℕ) → o ≡ Some (suc n) → length (f (suc n)) ≡ g (suc n)) → length (if_sent o f) ≡ if_moves o g
    go None h = refl
    go (Some zero) h = refl
    go (Some (suc n)) h = h n refl

pub length_question : (k : Disk) (c : Call) → length (question k c) ≡ up k c
length_question k (read buf) = sent k (length buf) (asking NBD_CMD_READ k) (λ n. 28) (λ n e. length_request NBD_CMD_READ k.position (suc n))
length_question k (write buf) =
    sent k (length buf) (λ n. asking NBD_CMD_WRITE k n ++ take n buf) (λ n. 28 + n)
    λ n e.
    length-append (asking NBD_CMD_WRITE k (suc n)) (take (suc n) buf)
    ∙ rw (length_request NBD_CMD_WRITE k.position (suc n), length-take-le (suc n) buf (grants k (length buf) (suc n) e).0)
length_question k (seek f) = refl
length_question k flush = length_request 3 0 0
length_question k (trim len) = sent k len (asking NBD_CMD_TRIM k) (λ n. 28) (λ n e. length_request NBD_CMD_TRIM k.position (suc n))

pub length_answer : (k : Disk) (c : Call) → length (answer k c) ≡ down k c
length_answer k (read buf) =
    sent k (length buf) (λ n. simple_reply 0 0 ++ here k n) (λ n. 16 + n)
    λ n e.
    let g = (grants k (length buf) (suc n) e).2 (omega arith) in
    length-append (simple_reply 0 0) (here k (suc n))
    ∙ rw (length_reply 0 0, length-take-le (suc n) (drop k.position k.bytes) (omega (arith, length-drop k.position k.bytes)))
length_answer k (write buf) = sent k (length buf) (λ n. simple_reply (pick k.read_only 1 0) 0) (λ n. 16) (λ n e. length_reply (pick k.read_only 1 0) 0)
length_answer k (seek f) = refl
length_answer k flush = length_reply 0 0
length_answer k (trim len) = sent k len (λ n. simple_reply 38 0) (λ n. 16) (λ n e. length_reply 38 0)

pub length_questions : (ks : List Call) (k : Disk) → length (questions k ks) ≡ ups k ks
length_questions [] k = refl
length_questions (c ∷ ks) k = length-append (question k c) (questions (after k c) ks) ∙ rw (length_question k c, length_questions ks (after k c))

pub length_answers : (ks : List Call) (k : Disk) → length (answers k ks) ≡ downs k ks
length_answers [] k = refl
length_answers (c ∷ ks) k = length-append (answer k c) (answers (after k c) ks) ∙ rw (length_answer k c, length_answers ks (after k c))
