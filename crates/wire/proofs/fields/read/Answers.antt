-- so many bytes stand for a number of that width
use Prim.Native.Nat.{◌+◌, ◌-◌}
use mathlib.Core.Path.{◌≡◌}
use native.Mathlib.Omega.{arith}
use lib.ListN.{length-take}
use Rattle.wire.proofs.BigEndian.{field_lt, bytes_each}
use Rattle.wire.proofs.fields.read.Goals as goal

pub number-requires : goal.number-requires
number-requires g c = rw length-take (omega (arith, c.BYTES.ensures, g.met.T.Field.narrow))

pub from_wide-requires : goal.from_wide-requires
from_wide-requires g c =
    let n = g.T.Field.BYTES in
    let a = c.args in
    let size : a.at + c.BYTES.result - a.at ≡ n = omega (arith, c.BYTES.ensures) in
    rw (c.number.ensures, size) (field_lt a.s.now a.at n (bytes_each a.s.now c.type_inv.s))

pub returns : goal.returns
returns g c =
    let n = g.T.Field.BYTES in
    let a = c.args in
    let size : a.at + c.BYTES.result - a.at ≡ n = omega (arith, c.BYTES.ensures) in
    rw (c.from_wide.ensures, c.number.ensures, size)
