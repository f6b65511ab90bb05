-- A move on real slices is a move of the code.
--   clip_take, clip_drop    a count above a list's length is as good as the length
--   piece_is, room_is       the piece and the room that are lent are those of a move
--   put_is                  a room that is put back stands behind the wire's bytes
--   on_wire, off_wire       what stands on a wire after bytes were put on it, or taken off it
--   client_moved, server_moved   what the two moves ensure
--   same_client_move, same_server_move   two results that are allowed for one move are equal
use Prim.Native.Nat.{ℕ, zero, suc, min, ◌+◌, ◌-◌, ◌≤◌}
use mathlib.Core.Path.{◌≡◌, sym, ap, ◌∙◌}
use mathlib.Core.List.{List, [], ◌∷◌, ◌++◌, append_assoc}
use native.Mathlib.Omega.{arith}
use lib.ListN.{length, take, drop, length-take, length-drop}
use lib.Seq.{take-take, take_at, take-append-le, take-append-add}
use borrow.Rule.Slice.PartMut.{put_mid, Post-is}
use Rattle.server.specs.Contract.{Serves}
use Rattle.server.specs.declared.state.Server.{Server}
use Rattle.server.specs.Answers as served
use Rattle.server.proofs.Result.{within as served_within, same_result as same_served}
use Rattle.client.specs.Contract.{Drives}
use Rattle.client.specs.declared.state.Client.{Client}
use Rattle.client.specs.Answers as driven
use Rattle.client.proofs.Result.{within as driven_within, same_result as same_driven}
use Rattle.joined.specs.Code.{client_step, server_step}
use Rattle.joined.specs.Wired.{taken_off, put_on, ClientMoves, ServerMoves}
use Rattle.joined.specs.declared.Moved.{Moved}

-- ---- one wire
clip_take : (n : ℕ) (w : List ℕ) → take (min n (length w)) w ≡ take n w
clip_take zero w = let e : min 0 (length w) ≡ 0 = omega arith in rw e
clip_take (suc n) [] = let e : min (suc n) 0 ≡ 0 = omega arith in rw e
clip_take (suc n) (b ∷ w) = let e : min (suc n) (suc (length w)) ≡ suc (min n (length w)) = omega arith in rw (e, clip_take n w)

clip_drop : (n : ℕ) (w : List ℕ) → drop (min n (length w)) w ≡ drop n w
clip_drop zero w = let e : min 0 (length w) ≡ 0 = omega arith in rw e
clip_drop (suc n) [] = let e : min (suc n) 0 ≡ 0 = omega arith in rw e
clip_drop (suc n) (b ∷ w) = let e : min (suc n) (suc (length w)) ≡ suc (min n (length w)) = omega arith in rw (e, clip_drop n w)

module _ (w : List ℕ) (count : ℕ) {there : ℕ} (h : there ≡ min count (length w)) where
  standing : take there w ≡ take count w
  standing = rw h (clip_take count w)

  pub piece_is : (piece : ℕ) → take (min piece there) w ≡ take piece (take count w)
  piece_is piece =
      let l : length (take count w) ≡ there = length-take count w ∙ sym h in
      sym (take-take (min piece there) there w (omega arith))
      ∙ ap (take (min piece there)) standing
      ∙ ap (λ (n : ℕ). take (min piece n) (take count w)) (sym l)
      ∙ clip_take piece (take count w)

  module _ (room : ℕ) {to : ℕ} (k : to ≡ there + min room (length w - there)) where
    pub room_is : take (to - there) (drop there w) ≡ take room (drop count w)
    room_is =
        let l : to - there ≡ min room (length (drop there w)) = omega (arith, length-drop there w) in
        let d : drop there w ≡ drop count w = rw h (clip_drop count w) in
        ap (λ (n : ℕ). take n (drop there w)) l ∙ clip_take room (drop there w) ∙ ap (take room) d

    pub put_is : (ys : List ℕ) → put_mid there (to - there) w ys ≡ put_on w count room ys
    put_is ys =
        let e : to ≡ min (count + room) (length w) = omega arith in
        ap (λ (z : List ℕ). take there w ++ (ys ++ z)) (Post-is there to w (omega arith))
        ∙ ap (λ (z : List ℕ). take there w ++ (ys ++ z)) (rw e (clip_drop (count + room) w))
        ∙ sym (append_assoc (take there w) ys (drop (count + room) w))
        ∙ ap (λ (z : List ℕ). z ++ ys ++ drop (count + room) w) standing

  pub on_wire : (room n : ℕ) (ys : List ℕ) → n ≤ length ys → take (there + n) (put_on w count room ys) ≡ take count w ++ take n ys
  on_wire room n ys i =
      let l : length (take count w) ≡ there = length-take count w ∙ sym h in
      let e : take (there + n) (take count w ++ (ys ++ drop (count + room) w)) ≡ take count w ++ take n (ys ++ drop (count + room) w) =
      rw (← l) (take-append-add (take count w) (ys ++ drop (count + room) w) n) in
      ap (take (there + n)) (append_assoc (take count w) ys (drop (count + room) w))
      ∙ e
      ∙ ap (λ (z : List ℕ). take count w ++ z) (take-append-le n ys (drop (count + room) w) i)

  pub off_wire : (n : ℕ) → take (there - n) (taken_off w count n) ≡ drop n (take count w)
  off_wire n =
      let l : length (drop n (take count w)) ≡ there - n = omega (arith, length-drop n (take count w), length-take count w) in
      take_at (drop n (take count w)) (drop (min count (length w) - n) w) (there - n) l

  -- the same bytes off, by the count or by what is there
  pub off_is : (n : ℕ) → taken_off w there n ≡ taken_off w count n
  off_is n = let m : min there (length w) ≡ min count (length w) = omega arith in rw (m, standing)

-- ---- the moves
module _ {c : Client} {m up : List ℕ} {ups : ℕ} {down : List ℕ} {downs piece room : ℕ} {r : driven.Stepped} {m' ys : List ℕ} {from to there n : ℕ}
    (f : from ≡ min ups (length up)) (e : to ≡ from + min room (length up - from)) (t : there ≡ min downs (length down)) (i : n ≡ min piece there)
    (p : Drives c m (take n down) (take (to - from) (drop from up)) r m' ys) where
  pub client_moved : ClientMoves c m up ups down downs piece room (record { step = r; ups = from + r.given; downs = there - r.taken }) m' (put_mid from (to - from) up ys)
      (taken_off down there r.taken)
  client_moved =
      let d : Drives c m (take piece (take downs down)) (take room (drop ups up)) r m' ys = rw (i, piece_is down downs t piece, room_is up ups f room e) at p in
      let w = driven_within d in
      let given = on_wire up ups f room r.given ys (omega (arith, w.1, w.2)) in
      let fits : length (take ups up) + length (take room (drop ups up)) ≤ length up =
      omega (arith, length-take ups up, length-take room (drop ups up), length-drop ups up) in
      record {
        given = ys;
        drives = d;
        up_bytes = put_is up ups f room e ys;
        down_bytes = off_is down downs t r.taken;
        up_count = rw f;
        down_count = rw t;
        moves = λ table ks rs s img. rw (put_is up ups f room e ys, off_is down downs t r.taken, given, off_wire down downs t r.taken) (client_step piece (take room (drop ups up)) r m' ys fits d);
      }

module _ {s : Server} {table img up : List ℕ} {ups : ℕ} {down : List ℕ} {downs piece room : ℕ} {r : served.Stepped} {img' ys : List ℕ} {from to there n : ℕ}
    (f : from ≡ min downs (length down)) (e : to ≡ from + min room (length down - from)) (t : there ≡ min ups (length up)) (i : n ≡ min piece there)
    (p : Serves s table img (take n up) (take (to - from) (drop from down)) r img' ys) where
  pub server_moved : ServerMoves s table img up ups down downs piece room (record { step = r; ups = there - r.taken; downs = from + r.given }) img'
      (taken_off up there r.taken) (put_mid from (to - from) down ys)
  server_moved =
      let d : Serves s table img (take piece (take ups up)) (take room (drop downs down)) r img' ys = rw (i, piece_is up ups t piece, room_is down downs f room e) at p in
      let w = served_within d in
      let given = on_wire down downs f room r.given ys (omega (arith, w.1, w.2)) in
      let fits : length (take downs down) + length (take room (drop downs down)) ≤ length down =
      omega (arith, length-take downs down, length-take room (drop downs down), length-drop downs down) in
      record {
        given = ys;
        serves = d;
        up_bytes = off_is up ups t r.taken;
        down_bytes = put_is down downs f room e ys;
        up_count = rw t;
        down_count = rw f;
        moves = λ c m ks rs. rw (put_is down downs f room e ys, off_is up ups t r.taken, given, off_wire up ups t r.taken) (server_step piece (take room (drop downs down)) r img' ys fits d);
      }

-- ---- two results of one move
pub same_client_move : {c : Client} {m up : List ℕ} {ups : ℕ} {down : List ℕ} {downs piece room : ℕ} {r q : Moved driven.Stepped} {m' m'' up' up'' down' down'' : List ℕ}
    → ClientMoves c m up ups down downs piece room r m' up' down' → ClientMoves c m up ups down downs piece room q m'' up'' down''
    → (r ≡ q) × (m' ≡ m'') × (up' ≡ up'') × (down' ≡ down'')
same_client_move {r = r} {q = q} x y =
    let s = same_driven x.drives y.drives in
    let whole : ◌≡◌ {A = Moved driven.Stepped} (record { step = r.step; ups = r.ups; downs = r.downs }) (record { step = q.step; ups = q.ups; downs = q.downs }) =
    rw (x.up_count, x.down_count, s.0, ← y.up_count, ← y.down_count) in
    (whole, s.1, rw (x.up_bytes, s.2, ← y.up_bytes), rw (x.down_bytes, s.0, ← y.down_bytes))

pub same_server_move : {s : Server} {t img up : List ℕ} {ups : ℕ} {down : List ℕ} {downs piece room : ℕ} {r q : Moved served.Stepped} {img' img'' up' up'' down' down'' : List ℕ}
    → ServerMoves s t img up ups down downs piece room r img' up' down' → ServerMoves s t img up ups down downs piece room q img'' up'' down''
    → (r ≡ q) × (img' ≡ img'') × (up' ≡ up'') × (down' ≡ down'')
same_server_move {r = r} {q = q} x y =
    let s = same_served x.serves y.serves in
    let whole : ◌≡◌ {A = Moved served.Stepped} (record { step = r.step; ups = r.ups; downs = r.downs }) (record { step = q.step; ups = q.ups; downs = q.downs }) =
    rw (x.up_count, x.down_count, s.0, ← y.up_count, ← y.down_count) in
    (whole, s.1, rw (x.up_bytes, s.0, ← y.up_bytes), rw (x.down_bytes, s.2, ← y.down_bytes))
