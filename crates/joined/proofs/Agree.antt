-- The client's device, the server's export and the plain disk agree.
--   Agrees           the device has the disk's size and position, the export its size and flag
--   same_transfer    so they move as many bytes
--   same_target      and seek to the same place
--   window_back      the window of an image in which the disk's bytes stand
--   sets_window      bytes that are stored in the image are stored in the disk
use Prim.Native.Nat.{ℕ, suc, min, ◌+◌, ◌-◌, ◌^◌, ◌≤◌}
use mathlib.Core.Path.{◌≡◌, refl}
use mathlib.Core.Bool.{Bool, true, false, not}
use mathlib.Core.List.{List, ◌++◌, append_assoc}
use Rattle.std.specs.Prelude.{None, Some}
use native.Mathlib.Omega.{arith}
use borrow.Author.Tests.{eqb-true, le-ltb, ltb-true, ltb-false, le-leb, lt-leb}
use lib.Dec.{eqb, ltb, leb}
use lib.IntN.{ℤ, pos, negsuc}
use lib.ListN.{length, take, drop, length-append}
use lib.Seq.{sets, sets-eq, take_at, drop_at, take-append-add, drop-append-add, take-append-le, drop-append-le}
use Rattle.machine.specs.Choice.{pick, both}
use Rattle.wire.specs.Numbers.{added}
use Rattle.wire.specs.Table.{read_only}
use Rattle.wire.specs.declared.table.Export.{Export}
use Rattle.server.specs.Session.{window}
use Rattle.client.specs.Calls.{transfer, sought}
use Rattle.client.specs.declared.state.Device.{Device}
use Rattle.joined.specs.Disk as plain
use Rattle.joined.specs.Disk.{Disk, From, from_start, from_here, from_end, shifted, target}
use Rattle.joined.specs.Code.{seek_from}

pub record Agrees (e : Export) (d : Device) (k : Disk) : Type 0 where
  pub same_size : d.size ≡ length k.bytes
  pub same_position : d.position ≡ k.position
  pub whole : length k.bytes ≡ e.size
  pub same_flag : read_only e.flags ≡ k.read_only

-- ---- how many bytes
one_clause : (s p n : ℕ) → pick (eqb p s) (Some 0) (pick (ltb s p) None (Some (min (min n (s - p)) (2 ^ 32 - 1))))
    ≡ pick (ltb s p) None (Some (min (min n (s - p)) (2 ^ 32 - 1)))
one_clause s p n = go (eqb p s) refl
  where
    go : (b : Bool) → eqb p s ≡ b → pick b (Some 0) (pick (ltb s p) None (Some (min (min n (s - p)) (2 ^ 32 - 1))))
        ≡ pick (ltb s p) None (Some (min (min n (s - p)) (2 ^ 32 - 1)))
    go true e =
        let h : p ≡ s = eqb-true p s e in
        let z : min (min n (s - p)) (2 ^ 32 - 1) ≡ 0 = omega arith in
        rw (le-ltb s p (omega arith), z)
    go false e = refl

pub same_transfer : {e : Export} {d : Device} {k : Disk} → Agrees e d k → (n : ℕ) → transfer d n ≡ plain.transfer k n
unfolding transfer
same_transfer {e} {d} {k} a n = rw (a.same_size, a.same_position) (one_clause (length k.bytes) k.position n)

-- ---- where to
same_sum : (p : ℕ) (z : ℤ) → added p z ≡ shifted p z
unfolding added
same_sum p (pos n) = go (ltb (p + n) (2 ^ 64)) refl
  where
    go : (b : Bool) → ltb (p + n) (2 ^ 64) ≡ b → pick b (Some (p + n)) None ≡ pick (leb (2 ^ 64) (p + n)) None (Some (p + n))
    go true e = rw (lt-leb (2 ^ 64) (p + n) (ltb-true (p + n) (2 ^ 64) e))
    go false e = rw (le-leb (2 ^ 64) (p + n) (ltb-false (p + n) (2 ^ 64) e))
same_sum p (negsuc n) = go (eqb (suc n) (2 ^ 63)) (leb (suc n) p)
  where
    go : (x y : Bool) → pick x None (pick y (Some (p - suc n)) None) ≡ pick (both y (not x)) (Some (p - suc n)) None
    go true true = refl
    go true false = refl
    go false true = refl
    go false false = refl

pub same_target : {e : Export} {d : Device} {k : Disk} → Agrees e d k → (f : From) → sought d (seek_from f) ≡ target k f
same_target a (from_start p) = refl
same_target {k = k} a (from_here z) = rw a.same_position (same_sum k.position z)
same_target {k = k} a (from_end z) = rw a.same_size (same_sum (length k.bytes) z)

-- ---- the image: what is before the window, the window, and what is behind it
module _ (front behind : List ℕ) where
  pub window_back : (e : Export) (bs : List ℕ) → length front ≡ e.start → length bs ≡ e.size → window e (front ++ bs ++ behind) ≡ bs
  window_back e bs p q = rw (append_assoc front bs behind, drop_at front (bs ++ behind) e.start p) (take_at bs behind e.size q)

  pub image_length : (bs : List ℕ) → length (front ++ bs ++ behind) ≡ length front + length bs + length behind
  image_length bs = rw (length-append (front ++ bs) behind, length-append front bs)

  pub sets_window : (bs pay : List ℕ) (start p n : ℕ) → length front ≡ start → length pay ≡ n → p + n ≤ length bs
      → sets (front ++ bs ++ behind) (start + p) pay ≡ front ++ (take p bs ++ pay ++ drop (p + n) bs) ++ behind
  sets_window bs pay start p n f l h =
      let i : start + p + n ≡ length front + (p + n) = omega arith in
      let e : sets (front ++ bs ++ behind) (start + p) pay ≡ take (start + p) (front ++ bs ++ behind) ++ pay ++ drop (start + p + length pay) (front ++ bs ++ behind) =
      sets-eq pay (front ++ bs ++ behind) (start + p) (omega (arith, image_length bs)) in
      let b : take (start + p) (front ++ bs ++ behind) ≡ front ++ take p bs =
      rw (← f, append_assoc front bs behind, take-append-add front (bs ++ behind) p, take-append-le p bs behind (omega arith)) in
      let c : drop (start + p + n) (front ++ bs ++ behind) ≡ drop (p + n) bs ++ behind =
      rw (i, append_assoc front bs behind, drop-append-add front (bs ++ behind) (p + n), drop-append-le (p + n) bs behind h) in
      rw (e, l, b, c) (simp append_assoc)
