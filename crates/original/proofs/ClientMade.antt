-- Each call on a ready client: document 000's answer is the port's, at once or once its steps are made.
--   same_len      `get_effective_len` is the port's transfer
--   AtOnce        the call is answered at once, as document 000 answers it
--   GoesOut       the call is open, and the machine does what document 000's call comes to
--   made_agrees   each call is one of the two
use Prim.Native.Nat.{ℕ, zero, suc, min, ◌-◌, ◌≤◌}
use mathlib.Core.Path.{◌≡◌, refl}
use mathlib.Core.Bool.{Bool, true, false}
use mathlib.Core.Logic.{◌⊎◌, inl, inr}
use mathlib.Core.List.{List, ◌++◌, append-nil}
use Rattle.std.specs.Prelude.{Option, None, Some}
use native.Mathlib.Omega.{arith}
use borrow.Author.Tests.{ne_eqb}
use lib.Dec.{eqb, ltb}
use lib.ListN.{length, take}
use Rattle.machine.specs.Choice.{pick}
use Rattle.machine.specs.Machine.{on}
use Rattle.wire.specs.Numbers.{clamped}
use Rattle.client.specs.Calls.{transfer, sought, payload, wanted, request_bytes, value_of, moved, positioned}
use Rattle.client.specs.Session.{Asking, Ready, Calling}
use Rattle.client.specs.View.{code}
use Rattle.client.specs.Ranges.{lent_to}
use Rattle.client.specs.Contract.{answer, values_in}
use Rattle.client.specs.History.{answered}
use Rattle.client.specs.declared.state.Device.{Device}
use Rattle.client.specs.declared.state.Call as request
use Rattle.client.specs.declared.state.Call.TheVariants.{Read, Write, Flush, Trim, Resize}
use Rattle.client.specs.declared.state.Value.TheVariants.{Position}
use Rattle.client.specs.declared.state.Outcome.{Outcome}
use Rattle.client.specs.declared.state.Outcome.TheVariants.{Open, Succeeded, Failed, Ended, Refused}
use Rattle.client.specs.declared.state.SeekFrom.{SeekFrom}
use Rattle.client.specs.declared.state.SeekFrom.TheVariants.{Start, Current, End}
use Rattle.original.specs.Consts.{NBD_CMD_READ, NBD_CMD_WRITE, NBD_CMD_FLUSH, NBD_CMD_TRIM, NBD_CMD_RESIZE}
use Rattle.original.specs.Client.{Answer, Done, stops, ok, failed, refused, fault, exchange, fill, effective_len, read_some, write_some, trim_some, seek_to, target, Call, read, write, flush, trim, resize, seek, made}
use Rattle.original.specs.ClientSession.{asked, buffer}
use Rattle.original.proofs.Leaves.{same_sum, same_clamp, same_request}
use Rattle.original.proofs.ClientMeets.{client_of, Meets}
use Rattle.original.proofs.ClientCalls.{exchange_meets, closed_meets, fill_meets}

-- ---- how many bytes
pub same_len : (d : Device) (k : ℕ) → effective_len (client_of d) k ≡ transfer d k
unfolding transfer
same_len d k =
    let e : min (clamped k) (clamped (d.size - d.position)) ≡ clamped (min k (d.size - d.position)) = omega arith in
    rw (same_clamp k, same_clamp (d.size - d.position), e)

at_most : (d : Device) (k n : ℕ) → transfer d k ≡ Some n → n ≤ k
unfolding transfer
at_most d k n h = go (eqb d.position d.size) (ltb d.size d.position) h
  where
    go : (a b : Bool) → pick a (Some 0) (pick b None (Some (clamped (min k (d.size - d.position))))) ≡ Some n → n ≤ k
    go true b e = let z : 0 ≡ n = cc in omega arith
    go false true e = absurd (let z : ◌≡◌ {A = ℕ} 0 1 = cc in omega arith)
    go false false e = let z : clamped (min k (d.size - d.position)) ≡ n = cc in omega arith

-- ---- a success or a refusal
abbrev pub prompt_answer : Outcome → Device → Answer
prompt_answer Open d = fault 50
prompt_answer (Succeeded v) d = ok (values_in v) (client_of d)
prompt_answer (Failed error) d = failed error (client_of d)
prompt_answer (Ended n) d = fault n
prompt_answer (Refused n) d = refused n (client_of d)

abbrev pub Prompt : Outcome → Type 0
Prompt Open = ⊥
Prompt (Succeeded v) = Unit {0}
Prompt (Failed error) = ⊥
Prompt (Ended n) = ⊥
Prompt (Refused n) = Unit {0}

module _ (d : Device) (k : Call) (input : List ℕ) (r : Done) where
  pub record AtOnce : Type 0 where
    pub outcome : Outcome
    pub device : Device
    pub answers : answered (asked k) (code (Ready d)) ≡ answer (Ready device) outcome
    pub prompt : Prompt outcome
    pub same : r ≡ stops input (buffer k) (prompt_answer outcome device)

  pub record GoesOut : Type 0 where
    pub call : request.Call
    pub answers : answered (asked k) (code (Ready d)) ≡ answer (Calling d call (Asking 28)) Open
    pub lends : lent_to call ≡ length (buffer k)
    pub meets : Meets (on (Calling d call (Asking 28)) (buffer k)) input r

module _ (d : Device) (input : List ℕ) where
  abbrev Agrees : Call → Done → Type 0
  Agrees k r = AtOnce d k input r ⊎ GoesOut d k input r

  made_read : (buf : List ℕ) (o : Option ℕ) → transfer d (length buf) ≡ o → Agrees (read buf) (read_some (client_of d) buf input o)
  made_read buf None e = inl record { outcome = Refused 49; device = d; answers = rw e; prompt = tt; same = refl }
  made_read buf (Some zero) e = inl record { outcome = Succeeded (value_of (Read 0 (length buf))); device = d; answers = rw e; prompt = tt; same = refl }
  made_read buf (Some (suc n)) e =
      let c = Read (suc n) (length buf) in
      inr record {
        call = c;
        answers = rw (e, ne_eqb (suc n) 0 (λ z. omega arith));
        lends = refl;
        meets =
            rw (same_request NBD_CMD_READ d.position (suc n))
            (rw append-nil at (exchange_meets d c buf (omega arith) input (fill (client_of d) (suc n) buf) (λ left. fill_meets d (suc n) (length buf) buf left (at_most d (length buf) (suc n) e))));
      }

  -- a call with no data behind its reply
  goes_out : (k : Call) (c : request.Call) (r : Done) → answered (asked k) (code (Ready d)) ≡ answer (Calling d c (Asking 28)) Open → payload c ≤ length (buffer k) → lent_to c ≡ length (buffer k) → wanted c ≡ 0
      → r ≡ exchange (client_of d) (request_bytes d c ++ take (payload c) (buffer k)) (buffer k) input (λ left. stops left (buffer k) (ok (values_in (value_of c)) (client_of (moved d c))))
      → Agrees k r
  goes_out k c r e fits l w q = inr record {
    call = c;
    answers = e;
    lends = l;
    meets =
        rw q
        (exchange_meets d c (buffer k) fits input (λ left. stops left (buffer k) (ok (values_in (value_of c)) (client_of (moved d c)))) (λ left. closed_meets d c (buffer k) left w));
  }

  made_write : (buf : List ℕ) (o : Option ℕ) → transfer d (length buf) ≡ o → Agrees (write buf) (write_some (client_of d) buf input o)
  made_write buf None e = inl record { outcome = Refused 49; device = d; answers = rw e; prompt = tt; same = refl }
  made_write buf (Some zero) e = inl record { outcome = Succeeded (value_of (Write 0 (length buf))); device = d; answers = rw e; prompt = tt; same = refl }
  made_write buf (Some (suc n)) e =
      goes_out (write buf) (Write (suc n) (length buf)) (write_some (client_of d) buf input (Some (suc n))) (rw (e, ne_eqb (suc n) 0 (λ z. omega arith))) (at_most d (length buf) (suc n) e) refl refl (rw (same_request NBD_CMD_WRITE d.position (suc n)))

  made_trim : (len : ℕ) (o : Option ℕ) → transfer d len ≡ o → Agrees (trim len) (trim_some (client_of d) input o)
  made_trim len None e = inl record { outcome = Refused 49; device = d; answers = rw e; prompt = tt; same = refl }
  made_trim len (Some zero) e = inl record { outcome = Succeeded (value_of (Trim 0)); device = d; answers = rw e; prompt = tt; same = refl }
  made_trim len (Some (suc n)) e =
      goes_out (trim len) (Trim (suc n)) (trim_some (client_of d) input (Some (suc n))) (rw (e, ne_eqb (suc n) 0 (λ z. omega arith))) (omega arith) refl refl (rw (same_request NBD_CMD_TRIM d.position (suc n), append-nil))

  made_seek : (f : SeekFrom) (o : Option ℕ) → sought d f ≡ o → Agrees (seek f) (seek_to (client_of d) input o)
  made_seek f None e = inl record { outcome = Refused 48; device = d; answers = rw e; prompt = tt; same = refl }
  made_seek f (Some p) e = inl record { outcome = Succeeded (Position p); device = positioned d p; answers = rw e; prompt = tt; same = refl }

  same_target : (f : SeekFrom) → target (client_of d) f ≡ sought d f
  same_target (Start p) = refl
  same_target (Current z) = same_sum d.position z
  same_target (End z) = same_sum d.size z

  pub made_agrees : (k : Call) → Agrees k (made (client_of d) k input)
  unfolding made
  made_agrees (read buf) = rw (same_len d (length buf)) (made_read buf (transfer d (length buf)) refl)
  made_agrees (write buf) = rw (same_len d (length buf)) (made_write buf (transfer d (length buf)) refl)
  made_agrees flush = goes_out flush Flush (made (client_of d) flush input) refl (omega arith) refl refl (rw (same_request NBD_CMD_FLUSH 0 0, append-nil))
  made_agrees (trim len) = rw (same_len d len) (made_trim len (transfer d len) refl)
  made_agrees (resize size) = goes_out (resize size) (Resize size) (made (client_of d) (resize size) input) refl (omega arith) refl refl (rw (same_request NBD_CMD_RESIZE size 0, append-nil))
  made_agrees (seek f) = rw (same_target f) (made_seek f (sought d f) refl)
