-- The window as a part of the image.
--   window_length   how many bytes it has
--   stored          a payload is as many moves, each a byte of the image
--   put_window      the image with the window back in its place, into which bytes were pasted
--   store_leaf, send_leaf   payload into the window and data from it are moves of the machine
use Prim.Native.Nat.{ℕ, zero, suc, ◌+◌, ◌-◌, ◌≤◌, ◌<◌}
use mathlib.Core.Path.{◌≡◌, refl, sym, ap, ◌∙◌}
use mathlib.Core.List.{List, [], ◌∷◌, ◌++◌, append_assoc}
use native.Mathlib.Omega.{arith}
use lib.ListN.{length, take, drop, set, length-take, length-drop, take-append-drop}
use lib.Seq.{sets, sets-eq, paste, length-take-le, take-take, drop-drop, drop-append-le, take-add}
use borrow.Rule.Slice.PartMut.{put_mid}
use Rattle.machine.specs.Machine.{on, Moves, still, by_take}
use Rattle.machine.specs.Pieces.{Absorbs, Emits}
use Rattle.machine.proofs.Leaves.{send_leaf as sends_leaf}
use Rattle.wire.specs.declared.table.Export.{Export}
use Rattle.server.specs.Session.{State, Storing, Sending, Serving, storing, sending, window, turn}
use Rattle.server.specs.Inner.{Stored, Sent}
use Rattle.server.proofs.Left.{storing_more, sending_more}
use Rattle.server.proofs.Session.{each_sent}

pub window_length : (e : Export) (m : List ℕ) → e.start + e.size ≤ length m → length (window e m) ≡ e.size
window_length e m h = length-take-le e.size (drop e.start m) (omega (arith, length-drop e.start m))

pub stored : (t : List ℕ) (e : Export) (handle : ℕ) (is : List ℕ) (off left k at : ℕ) (m : List ℕ) → left ≡ length is + k → at ≡ off + length is
    → Moves (turn t) (on (storing e handle off left) m) is [] (on (storing e handle at k) (sets m (e.start + off) is))
stored t e handle [] off left k at m p q =
    let a : left ≡ k = omega arith in
    let b : at ≡ off = omega arith in
    rw (a, b) still
stored t e handle (b ∷ is) off zero k at m p q = absurd (omega arith)
stored t e handle (b ∷ is) off (suc left) k at m p q =
    let i : suc (e.start + off) ≡ e.start + suc off = omega arith in
    let rest = stored t e handle is (suc off) left k at (set m (e.start + off) b) (omega arith) (omega arith) in
    by_take refl (rw (← i) at rest)

-- a part of the image from a on, into which n bytes were pasted at off
pub put_window : (m is : List ℕ) (a k off n : ℕ) → a + k ≤ length m → off + n ≤ k → length (take n is) ≡ n
    → put_mid a (a + k - a) m (paste (take k (drop a m)) off is n) ≡ sets m (a + off) (take n is)
put_window m is a k off n h fits l =
    let d = drop a m in
    let w = take k d in
    let i : a + k - a ≡ k = omega arith in
    let e : sets m (a + off) (take n is) ≡ take (a + off) m ++ take n is ++ drop (a + off + n) m =
    sets-eq (take n is) m (a + off) (omega arith) ∙ ap (λ (j : ℕ). take (a + off) m ++ take n is ++ drop (a + off + j) m) l in
    let f : take off w ≡ take off d = take-take off k d (omega arith) in
    let j : a + (off + n) ≡ a + off + n = omega arith in
    let g : drop (off + n) w ++ drop k d ≡ drop (a + off + n) m =
    sym (drop-append-le (off + n) w (drop k d) (omega (arith, length-take k d, length-drop a m)))
    ∙ ap (λ (x : List ℕ). drop (off + n) x) (take-append-drop k d)
    ∙ drop-drop (off + n) a m
    ∙ ap (λ (x : ℕ). drop x m) j in
    rw (i, e, f, take-add a off m, ← g) (simp append_assoc)

module _ (t : List ℕ) (e : Export) (off left : ℕ) (m : List ℕ) (inside : e.start + e.size ≤ length m) (some : 0 < left) (fits : off + left ≤ e.size) where
  pub store_leaf : (handle : ℕ) {input m' w' : List ℕ} {taken : ℕ} {x : State} → Stored e handle off left input (window e m) taken x w'
      → m' ≡ put_mid e.start (e.start + e.size - e.start) m w' → Absorbs (turn t) (on (Serving e (Storing handle off left)) m) input taken (on x m')
  store_leaf handle {input} {m'} {w'} {taken} {x} g q =
      let l : length (take taken input) ≡ taken = length-take taken input ∙ omega (arith, g.least) in
      let p : m' ≡ sets m (e.start + off) (take taken input) =
      q ∙ ap (λ (w : List ℕ). put_mid e.start (e.start + e.size - e.start) m w) g.written
      ∙ put_window m input e.start e.size off taken inside (omega (arith, g.least)) l in
      record {
        moves = rw (storing_more e handle off left (λ z. omega arith), g.stands, p) (stored t e handle (take taken input) off left (left - taken) (off + taken) m (omega (arith, g.least)) (omega arith));
        within = omega (arith, g.least);
        stops = λ z _. omega (arith, g.least);
      }

  pub send_leaf : {room room' : List ℕ} {given : ℕ} {x : State} → Sent e off left (window e m) room given x room'
      → Emits (turn t) (on (Serving e (Sending off left)) m) room given (on x m) room'
  send_leaf g =
      sends_leaf (sending e) (window e m) (off + left) (each_sent t e m (off + left)) (sending_more e off left (λ z. omega arith)) g.least some refl
      (rw (window_length e m inside) fits) g.stands g.written
