-- Document 000's constants and leaf functions are the port's, for any numbers: of one that is wider than its field, both write the low bytes.
--   same_strings, same_magics, same_options, same_replies, same_handshake_flags, same_export_flags, same_types   the constants
--   has_bit                    `flags & k != 0`, where k is one binary digit
--   same_flags, same_readonly  the flags that answer EXPORT_NAME; that an export is read-only
--   same_sum, same_clamp       `checked_add_i64`; `clamp_to_u32`
--   same_zeros                 a comparison with zeros
--   same_oldstyle, same_greeting, same_option_reply, same_export_reply, same_reply, same_export_name, same_request   what is written
use Prim.Native.Nat.{ℕ, suc, ◌+◌, ◌*◌, ◌/◌, ◌%◌, ◌^◌, ◌-◌, ◌<◌}
use mathlib.Core.Path.{◌≡◌, refl, ap}
use mathlib.Core.Bool.{Bool, true, false, not}
use mathlib.Core.List.{List, [], ◌∷◌, ◌++◌}
use Rattle.std.specs.Prelude.{Option, None, Some}
use native.Mathlib.Nat.{one-le-pow, zero-mul}
use native.Mathlib.Omega.{arith}
use borrow.Author.Tests.{eqb-true, eqb-false, ne_eqb, ltb-true, ltb-false, lt-ltb, le-ltb, le-leb, lt-leb}
use lib.Bits.{and_high}
use lib.Dec.{eqb, ltb, leb}
use lib.IntN.{ℤ, pos, negsuc}
use lib.ListN.{length, replicate}
use Rattle.machine.specs.Choice.{pick, both}
use Rattle.machine.specs.Parts.{blank}
use Rattle.wire.specs.Fields.{be, same_bytes}
use Rattle.wire.specs.Constants as port
use Rattle.wire.specs.Layouts as wire
use Rattle.wire.specs.Numbers.{clamped, added}
use Rattle.wire.specs.Table.{bit, read_only, wire_flags}
use Rattle.server.proofs.Kept.{picked}
use Rattle.original.specs.Consts as consts
use Rattle.original.specs.Leaves.{has, table_fields, export_flags, take_away, checked_add_i64, clamp_to_u32, oldstyle_header, greeting, reply, export_reply, replyt, export_name, sendrequest}

-- ---- the constants
pub same_strings :
    consts.NBDMAGIC ∷ consts.IHAVEOPT ∷ consts.OLDSTYLE ∷ consts.rustnbd ∷ []
    ≡ port.NBDMAGIC ∷ port.IHAVEOPT ∷ port.OLDSTYLE ∷ (be 4 7 ++ port.rustnbd) ∷ []
unfolding be
same_strings = refl

pub same_magics :
    be 8 consts.NBD_OPT_MAGIC ∷ be 8 consts.NBD_OPT_REPLY_MAGIC ∷ be 4 consts.NBD_REQUEST_MAGIC ∷ be 4 consts.NBD_REPLY_MAGIC ∷ []
    ≡ port.IHAVEOPT ∷ be 8 port.NBD_OPT_REPLY_MAGIC ∷ be 4 port.NBD_REQUEST_MAGIC ∷ be 4 port.NBD_REPLY_MAGIC ∷ []
unfolding be
same_magics = refl

pub same_options :
    consts.NBD_OPT_EXPORT_NAME ∷ consts.NBD_OPT_ABORT ∷ consts.NBD_OPT_LIST ∷ consts.NBD_OPT_STARTTLS
    ∷ consts.NBD_OPT_INFO ∷ consts.NBD_OPT_GO ∷ consts.NBD_OPT_STRUCTURED_REPLY ∷ consts.NBD_OPT_EXTENDED_HEADERS ∷ []
    ≡ port.NBD_OPT_EXPORT_NAME ∷ port.NBD_OPT_ABORT ∷ port.NBD_OPT_LIST ∷ port.NBD_OPT_STARTTLS
    ∷ port.NBD_OPT_INFO ∷ port.NBD_OPT_GO ∷ port.NBD_OPT_STRUCTURED_REPLY ∷ port.NBD_OPT_EXTENDED_HEADERS ∷ []
same_options = refl

pub same_replies :
    consts.NBD_REP_ACK ∷ consts.NBD_REP_SERVER ∷ consts.NBD_REP_ERR_UNSUP ∷ []
    ≡ port.NBD_REP_ACK ∷ port.NBD_REP_SERVER ∷ port.NBD_REP_ERR_UNSUP ∷ []
same_replies = refl

pub same_handshake_flags :
    consts.NBD_FLAG_FIXED_NEWSTYLE ∷ consts.NBD_FLAG_NO_ZEROES ∷ consts.NBD_FLAG_C_FIXED_NEWSTYLE ∷ consts.NBD_FLAG_C_NO_ZEROES ∷ []
    ≡ port.NBD_FLAG_FIXED_NEWSTYLE ∷ port.NBD_FLAG_NO_ZEROES ∷ port.NBD_FLAG_C_FIXED_NEWSTYLE ∷ port.NBD_FLAG_C_NO_ZEROES ∷ []
same_handshake_flags = refl

pub same_export_flags :
    consts.NBD_FLAG_HAS_FLAGS ∷ consts.NBD_FLAG_READ_ONLY ∷ consts.NBD_FLAG_SEND_FLUSH
    ∷ consts.NBD_FLAG_ROTATIONAL ∷ consts.NBD_FLAG_SEND_TRIM ∷ consts.NBD_FLAG_SEND_RESIZE ∷ []
    ≡ port.NBD_FLAG_HAS_FLAGS ∷ port.NBD_FLAG_READ_ONLY ∷ port.NBD_FLAG_SEND_FLUSH
    ∷ port.NBD_FLAG_ROTATIONAL ∷ port.NBD_FLAG_SEND_TRIM ∷ port.NBD_FLAG_SEND_RESIZE ∷ []
same_export_flags = refl

pub same_types :
    consts.NBD_CMD_READ ∷ consts.NBD_CMD_WRITE ∷ consts.NBD_CMD_DISC ∷ consts.NBD_CMD_FLUSH
    ∷ consts.NBD_CMD_TRIM ∷ consts.NBD_CMD_WRITE_ZEROES ∷ consts.NBD_CMD_RESIZE ∷ []
    ≡ port.NBD_CMD_READ ∷ port.NBD_CMD_WRITE ∷ port.NBD_CMD_DISC ∷ port.NBD_CMD_FLUSH
    ∷ port.NBD_CMD_TRIM ∷ port.NBD_CMD_WRITE_ZEROES ∷ port.NBD_CMD_RESIZE ∷ []
same_types = refl

-- ---- flags
pub has_bit : (flags k : ℕ) → has flags (2 ^ (1 + k) - 2 ^ k) ≡ bit k flags
unfolding has
has_bit flags k = rw (and_high flags 1 k) (go (bit k flags) refl)
  where
    digit : ℕ
    digit = flags / 2 ^ k % 2

    Some : 0 < 2 ^ k
    Some = one-le-pow k 2 (omega arith)

    go : (b : Bool) → eqb digit 1 ≡ b → not (eqb (digit * 2 ^ k) 0) ≡ b
    go true e = rw (eqb-true digit 1 e, ne_eqb (1 * 2 ^ k) 0 (λ z. omega (arith, Some)))
    go false e =
        let n = eqb-false digit 1 e in
        let z : digit ≡ 0 = omega arith in
        rw (z, zero-mul (2 ^ k))

same_pick : (a b c d : Bool)
    → export_flags (record { readonly = a; resizeable = b; rotational = c; send_trim = d })
    ≡ port.NBD_FLAG_HAS_FLAGS + pick a port.NBD_FLAG_READ_ONLY port.NBD_FLAG_SEND_FLUSH + pick b port.NBD_FLAG_SEND_RESIZE 0 + pick c port.NBD_FLAG_ROTATIONAL 0 + pick d port.NBD_FLAG_SEND_TRIM 0
unfolding export_flags
same_pick true true true true = refl
same_pick true true true false = refl
same_pick true true false true = refl
same_pick true true false false = refl
same_pick true false true true = refl
same_pick true false true false = refl
same_pick true false false true = refl
same_pick true false false false = refl
same_pick false true true true = refl
same_pick false true true false = refl
same_pick false true false true = refl
same_pick false true false false = refl
same_pick false false true true = refl
same_pick false false true false = refl
same_pick false false false true = refl
same_pick false false false false = refl

pub same_flags : (flags : ℕ) → export_flags (table_fields flags) ≡ wire_flags flags
unfolding wire_flags
same_flags flags = rw (has_bit flags 0, has_bit flags 1, has_bit flags 2, has_bit flags 3) (same_pick (bit 0 flags) (bit 1 flags) (bit 2 flags) (bit 3 flags))

pub same_readonly : (flags : ℕ) → (table_fields flags).readonly ≡ read_only flags
same_readonly flags = has_bit flags 0

-- ---- numbers
pub same_sum : (a : ℕ) (z : ℤ) → checked_add_i64 a z ≡ added a z
unfolding checked_add_i64 added
same_sum a (pos n) =
    picked (λ (o : Option ℕ). o ≡ pick (ltb (a + n) (2 ^ 64)) (Some (a + n)) None) (ltb (2 ^ 64 - 1) (a + n))
    (λ h. let p = ltb-true (2 ^ 64 - 1) (a + n) h in rw (le-ltb (a + n) (2 ^ 64) (omega arith)))
    (λ h. let p = ltb-false (2 ^ 64 - 1) (a + n) h in rw (lt-ltb (a + n) (2 ^ 64) (omega arith)))
same_sum a (negsuc n) = go (eqb (suc n) (2 ^ 63)) (ltb a (suc n)) refl
  where
    go : (b c : Bool) → ltb a (suc n) ≡ c → take_away a (pick b None (Some (suc n))) ≡ pick b None (pick (leb (suc n) a) (Some (a - suc n)) None)
    go true c e = refl
    go false true e = let p = ltb-true a (suc n) e in rw (e, lt-leb (suc n) a (omega arith))
    go false false e = let p = ltb-false a (suc n) e in rw (e, le-leb (suc n) a (omega arith))

pub same_clamp : (n : ℕ) → clamp_to_u32 n ≡ clamped n
unfolding clamp_to_u32
same_clamp n = picked (λ (k : ℕ). k ≡ clamped n) (ltb (2 ^ 32 - 1) n) (λ h. let p = ltb-true (2 ^ 32 - 1) n h in omega arith) (λ h. let p = ltb-false (2 ^ 32 - 1) n h in omega arith)

-- ---- zeros
pub same_zeros : (l : List ℕ) → same_bytes l (replicate (length l) 0) ≡ blank l
unfolding same_bytes
same_zeros [] = refl
same_zeros (b ∷ l) = ap (both (eqb b 0)) (same_zeros l)

-- ---- what is written
pub same_oldstyle : (size flags : ℕ) → oldstyle_header size flags ≡ wire.oldstyle_header size flags
unfolding oldstyle_header wire.oldstyle_header
same_oldstyle size flags = refl

pub same_greeting : greeting ≡ wire.greeting
unfolding greeting wire.greeting
same_greeting = refl

pub same_option_reply : (clopt rtype : ℕ) (data' : List ℕ) → reply clopt rtype data' ≡ wire.option_reply clopt rtype data'
unfolding reply wire.option_reply wire.option_reply_head
same_option_reply clopt rtype data' = refl

pub same_export_reply : (size flags : ℕ) (zeroes : Bool) → export_reply size flags zeroes ≡ wire.export_reply size flags zeroes
unfolding export_reply wire.export_reply
same_export_reply size flags zeroes = refl

pub same_reply : (error handle : ℕ) → replyt error handle ≡ wire.simple_reply error handle
unfolding replyt wire.simple_reply
same_reply error handle = refl

pub same_export_name : (name : List ℕ) → export_name name ≡ wire.export_name name
unfolding be export_name wire.export_name wire.option_request
same_export_name name = refl

pub same_request : (cmd offset len : ℕ) → sendrequest cmd offset len ≡ wire.request 0 cmd 0 offset len
unfolding sendrequest wire.request
same_request cmd offset len = refl
