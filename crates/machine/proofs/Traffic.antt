-- Laws of the bytes that two machines take and give.
--   append_none     nothing behind changes nothing
--   append_append   three parts, joined either way
--   total_append    the parts' numbers add up
--   total_talk      in a talk each byte is carried onto a wire and off it
use Prim.Native.Nat.{ℕ, ◌+◌, ◌*◌}
use mathlib.Core.Path.{◌≡◌}
use mathlib.Core.List.{List, append-nil, append_assoc}
use native.Mathlib.Omega.{arith}
use lib.ListN.{length, length-append}
use Rattle.machine.specs.Traffic.{Traffic, talk_bytes, no_bytes, append, total}

pub append_none : (a : Traffic) → append a no_bytes ≡ a
append_none a = rw (append-nil a.client_in, append-nil a.client_out, append-nil a.server_in, append-nil a.server_out)

pub append_append : (a b c : Traffic) → append (append a b) c ≡ append a (append b c)
append_append a b c =
    rw (
      append_assoc a.client_in b.client_in c.client_in,
      append_assoc a.client_out b.client_out c.client_out,
      append_assoc a.server_in b.server_in c.server_in,
      append_assoc a.server_out b.server_out c.server_out,
    )

pub total_append : (a b : Traffic) → total (append a b) ≡ total a + total b
total_append a b =
    let ci = length-append a.client_in b.client_in in
    let co = length-append a.client_out b.client_out in
    let si = length-append a.server_in b.server_in in
    let so = length-append a.server_out b.server_out in
    omega arith

twice : (n m : ℕ) → (m + n) + (n + m) ≡ 2 * (n + m)
twice n m = omega arith

pub total_talk : (us ds : List ℕ) → total (talk_bytes us ds) ≡ 2 * (length us + length ds)
total_talk us ds = twice (length us) (length ds)
