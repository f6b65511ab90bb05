use Prim.Native.Nat.{ℕ, ◌<◌, ◌+◌, ◌*◌, ◌^◌, ◌≤◌}
use mathlib.Core.Path.{◌≡◌, refl, ◌∙◌, ap}
use mathlib.Core.List.{List}
use native.Mathlib.Omega.{arith}
use lib.ListN.{length, get_or, take}
use lib.Seq.{take_all}
use mir.Syntax.{w8}
use mir.Val.{Fits}
use Rattle.wire.specs.Fields.{number}
use Rattle.wire.proofs.BigEndian.{number_take, number_fits, bytes_each}
use Rattle.wire.proofs.fields.number.Goals as goal

-- a turn's number is that of at most 8 bytes
next_fits : (l : List ℕ) (i x : ℕ) → ((k : ℕ) → Fits w8 (get_or l k 0)) → length l ≤ 8 → i < length l → x ≡ number (take i l)
    → x * 256 + get_or l i 0 < 2 ^ 64
next_fits l i x bytes short h e = omega (arith, number_take l i h, number_fits l (i + 1) (bytes_each l bytes) (omega arith))

pub loop-b-init : goal.loop-b-init
unfolding number
loop-b-init c = refl

pub overflow_mul-x : goal.overflow_mul-x
overflow_mul-x c =
    let l = c.loop-b in
    let fits = next_fits c.args.bytes.now l.b-index l.x c.type_inv.bytes c.requires (omega arith) l.invariant in
    record { fits = omega arith }

pub overflow_add-x : goal.overflow_add-x
overflow_add-x c =
    let l = c.loop-b in
    record { fits = next_fits c.args.bytes.now l.b-index l.x c.type_inv.bytes c.requires (omega arith) l.invariant }

pub loop-b-preserved : goal.loop-b-preserved
loop-b-preserved c =
    let l = c.loop-b in
    omega (arith, number_take c.args.bytes.now l.b-index (omega arith), l.invariant)

pub returns : goal.returns
returns c =
    let l = c.loop-b in
    l.invariant ∙ ap number (take_all l.b-index c.args.bytes.now (omega arith))
