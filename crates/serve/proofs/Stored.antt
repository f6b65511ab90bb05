-- What a step without room or without input does to the image.
--   stores_nothing   moves that give nothing and take no more than is offered from any place but Storing leave the image
--   taken_within     a step without room takes no more than there is
--   takes_apart      a step without room changes only its part, which lies in the window
--   gives_nothing    a step without input leaves the image
--   no_room          a room without bytes stays so
use Prim.Native.Nat.{ℕ, zero, suc, ◌+◌, ◌≤◌}
use mathlib.Core.Path.{◌≡◌, refl, ap}
use mathlib.Core.Bool.{Bool}
use mathlib.Core.List.{List, [], ◌∷◌, ◌++◌, append_assoc}
use Rattle.std.specs.Prelude.{Option, None, Some}
use native.Mathlib.Omega.{arith}
use borrow.Author.Tests.{ltb-false}
use lib.Dec.{eqb, ltb, leb}
use lib.ListN.{length, take, drop, length-append, length-take}
use lib.Seq.{take_at, drop_at, length-take-le}
use Rattle.machine.specs.Machine.{On, on, Turn, gives, takes, rests, Moves, still, by_give, by_take}
use Rattle.machine.specs.Parts.{less}
use Rattle.machine.proofs.Moves.{unmoved}
use Rattle.machine.proofs.Runs.{taken_length}
use Rattle.wire.specs.Fields.{number, field, same_bytes}
use Rattle.wire.specs.Constants.{IHAVEOPT, NBD_REQUEST_MAGIC}
use Rattle.wire.specs.Utf8.{whole}
use Rattle.wire.specs.Lookup.{chosen}
use Rattle.wire.specs.declared.utf8.Utf8.{Utf8}
use Rattle.wire.specs.declared.table.Export.{Export}
use Rattle.server.specs.Request.{request_of, owed}
use Rattle.server.specs.Session.{Greeting, ClientFlags, OptionHead, Naming, Passing, Listing, Declining, Aborting, Exporting}
use Rattle.server.specs.Session.{Header, Storing, Dropping, Replying, Sending, State, Shaking, Serving, Over}
use Rattle.server.specs.Session.{judge_flags, answered, passing, found, named, naming, payload, judge_option, storing, dropping, begun, requested, turn}
use Rattle.server.specs.View.{view}
use Rattle.server.specs.Ranges.{refusal}
use Rattle.server.specs.Inner.{Good}
use Rattle.server.specs.Contract.{Serves}
use Rattle.server.specs.declared.state.Server.{Server}
use Rattle.server.specs.Answers.{Stepped}
use Rattle.server.specs.declared.request.Request.{Request}
use Rattle.server.specs.declared.request.Answer.{Answer}
use Rattle.server.specs.declared.request.Answer.TheVariants.{Silence, Reply, Data, Store, Swallow, End}
use Rattle.server.proofs.Bounds.{storing_bounds, good_serving, accepted}
use Rattle.server.proofs.Kept.{picked}
use Rattle.server.proofs.Writes.{giving_writes_nothing, cut_inside_write}
use Rattle.server.proofs.Result.{within}
use Rattle.serve.specs.Stepping.{offered, changed, InWindow, Parted}

-- ---- places that store nothing while n bytes are taken and none is given
abbrev Calm : ℕ → State → Type 0
Calm n (Shaking p) = Unit {0}
Calm n (Serving e (Header got)) = length got + n ≤ 28
Calm n (Serving e (Storing handle off left)) = n ≡ 0
Calm n (Serving e (Dropping error handle left)) = Unit {0}
Calm n (Serving e (Replying error handle left off len)) = Unit {0}
Calm n (Serving e (Sending off left)) = Unit {0}
Calm n (Over k) = Unit {0}

module _ (n : ℕ) where
  calm_flagged : (h : List ℕ) → Calm n (judge_flags h)
  unfolding judge_flags
  calm_flagged h =
      picked (Calm n) (ltb (length h) 4) (λ _. tt)
      λ _. picked (Calm n) (eqb (number h) 1) (λ _. tt) λ _. picked (Calm n) (eqb (number h) 3) (λ _. tt) (λ _. tt)

  calm_answered : (z : Bool) (option len : ℕ) → Calm n (answered z option len)
  unfolding answered
  calm_answered z option len =
      picked (Calm n) (eqb option 2) (λ _. tt)
      λ _. picked (Calm n) (eqb option 3) (λ _. picked (Calm n) (eqb len 0) (λ _. tt) (λ _. tt))
      λ _. picked (Calm n) (eqb option 5) (λ _. tt)
      λ _. picked (Calm n) (eqb option 6) (λ _. tt)
      λ _. picked (Calm n) (eqb option 7) (λ _. tt)
      λ _. picked (Calm n) (eqb option 8) (λ _. tt)
      λ _. picked (Calm n) (eqb option 11) (λ _. tt) (λ _. tt)

  calm_passing : (z : Bool) (option len left : ℕ) → Calm n (passing z option len left)
  calm_passing z option len zero = calm_answered z option len
  calm_passing z option len (suc left) = tt

  calm_found : (z : Bool) (t : List ℕ) (o : Option ℕ) → Calm n (found z t o)
  calm_found z t None = tt
  calm_found z t (Some k) = tt

  calm_naming : (z : Bool) (t : List ℕ) (fits : List Bool) (text : Utf8) (at left : ℕ) → Calm n (naming z t fits text at left)
  unfolding named
  calm_naming z t fits text at zero = picked (Calm n) (whole text) (λ _. calm_found z t (chosen fits)) (λ _. tt)
  calm_naming z t fits text at (suc left) = tt

  calm_opted : (z : Bool) (t h : List ℕ) → Calm n (judge_option z t h)
  unfolding judge_option payload
  calm_opted z t h =
      picked (Calm n) (eqb (length h) 8) (λ _. picked (Calm n) (same_bytes h IHAVEOPT) (λ _. tt) (λ _. tt))
      λ _. picked (Calm n) (ltb (length h) 16) (λ _. tt)
      λ _. picked (Calm n) (leb (field h 12 4) 100000)
      (λ _. picked (Calm n) (eqb (field h 8 4) 1) (λ _. calm_naming z t _ _ 0 (field h 12 4)) (λ _. calm_passing z (field h 8 4) (field h 12 4) (field h 12 4))) (λ _. tt)

  calm_dropping : (e : Export) (error handle left : ℕ) → Calm n (dropping e error handle left)
  calm_dropping e error handle zero = tt
  calm_dropping e error handle (suc left) = tt

calm_storing : (e : Export) (handle off left : ℕ) → Calm 0 (storing e handle off left)
calm_storing e handle off zero = tt
calm_storing e handle off (suc left) = refl

calm_begun : (e : Export) (r : Request) (a : Answer) → Calm 0 (begun e r a)
calm_begun e r Silence = omega arith
calm_begun e r (Reply error) = tt
calm_begun e r Data = tt
calm_begun e r Store = calm_storing e r.handle r.offset r.len
calm_begun e r (Swallow error) = calm_dropping 0 e error r.handle r.len
calm_begun e r (End n) = tt

calm_requested : (n : ℕ) (e : Export) (h : List ℕ) → length h + n ≤ 28 → Calm n (requested e h)
unfolding requested
calm_requested n e h fits =
    picked (Calm n) (eqb (length h) 4) (λ _. picked (Calm n) (eqb (number h) NBD_REQUEST_MAGIC) (λ _. fits) (λ _. tt))
    λ _. picked (Calm n) (ltb (length h) 28) (λ _. fits)
    λ long.
    let none_left : n ≡ 0 = omega (arith, ltb-false (length h) 28 long) in
    rw none_left (calm_begun e (request_of h) (owed e (request_of h)))

-- ---- a byte is taken
abbrev Still : ℕ → List ℕ → On State → Type 0
Still n m₀ (on x m) = Calm n x × (m ≡ m₀)

abbrev Calmly : ℕ → List ℕ → Turn (On State) → Type 0
Calmly n m (gives b x) = Unit {0}
Calmly n m (takes k) = (b : ℕ) → Still n m (k b)
Calmly n m rests = Unit {0}

one_more : (got : List ℕ) (b n : ℕ) → length got + suc n ≤ 28 → length (got ++ b ∷ []) + n ≤ 28
one_more got b n h = omega (arith, length-append got (b ∷ []))

taking_calmly : (t : List ℕ) (n : ℕ) (x : State) (m : List ℕ) → Calm (suc n) x → Calmly n m (turn t (on x m))
taking_calmly t n (Shaking (Greeting left)) m h = tt
taking_calmly t n (Shaking (ClientFlags got)) m h = λ b. (calm_flagged n (got ++ b ∷ []), refl)
taking_calmly t n (Shaking (OptionHead z got)) m h = λ b. (calm_opted n z t (got ++ b ∷ []), refl)
taking_calmly t n (Shaking (Naming z fits text at left)) m h = λ b. (calm_naming n z t _ _ (suc at) (less left), refl)
taking_calmly t n (Shaking (Passing z option len left)) m h = λ b. (calm_passing n z option len (less left), refl)
taking_calmly t n (Shaking (Listing z left)) m h = tt
taking_calmly t n (Shaking (Declining z option left)) m h = tt
taking_calmly t n (Shaking (Aborting left)) m h = tt
taking_calmly t n (Shaking (Exporting z e left)) m h = tt
taking_calmly t n (Serving e (Header got)) m h = λ b. (calm_requested n e (got ++ b ∷ []) (one_more got b n h), refl)
taking_calmly t n (Serving e (Storing handle off left)) m h = absurd (omega arith)
taking_calmly t n (Serving e (Dropping error handle left)) m h = λ b. (calm_dropping n e error handle (less left), refl)
taking_calmly t n (Serving e (Replying error handle left off len)) m h = tt
taking_calmly t n (Serving e (Sending off left)) m h = tt
taking_calmly t n (Over k) m h = tt

calm_moves : (t m₀ : List ℕ) {is os : List ℕ} (x y : On State) → os ≡ [] → Still (length is) m₀ x → Moves (turn t) x is os y → Still 0 m₀ y
calm_moves t m₀ x y e h still = h
calm_moves t m₀ x y e h (by_give q p) = absurd (let z : ◌≡◌ {A = ℕ} 0 1 = cc in omega arith)
calm_moves t m₀ (on s m) y e h (by_take {k = k} {b = b} {is = is} q p) =
    let after = (rw q at (taking_calmly t (length is) s m h.0)) b in
    calm_moves t m₀ (k b) y e (rw h.1 at after) p

pub stores_nothing : (t : List ℕ) {is m m' : List ℕ} {x y : State} → Calm (length is) x → Moves (turn t) (on x m) is [] (on y m') → m' ≡ m
stores_nothing t {m = m} {m' = m'} {x = x} {y = y} h p = (calm_moves t m (on x m) (on y m') refl (h, refl) p).1

-- ---- a step without room

none_inside : (x : State) → InWindow x (record { from = 0; len = 0 })
none_inside (Shaking p) = refl
none_inside (Serving e p) = λ h. absurd (omega arith)
none_inside (Over n) = refl

untouched : (x : State) {m m' : List ℕ} → m' ≡ m → Parted x m m' (record { from = 0; len = 0 })
untouched x e = record { before = refl; behind = e; lies = omega arith; in_window = none_inside x }

module _ {t m m' : List ℕ} {y : State} (n : ℕ) where
  stored_apart : (e : Export) (handle off left : ℕ) (is : List ℕ) → Good t (length m) (Serving e (Storing handle off left)) → length is ≤ left
      → Moves (turn t) (on (Serving e (Storing handle off left)) m) is [] (on y m')
      → Parted (Serving e (Storing handle off left)) m m' (record { from = e.start + off; len = length is })
  stored_apart e handle off zero is g h p = absurd (omega (arith, (storing_bounds e off zero (good_serving g).0).0))
  stored_apart e handle off (suc left) is g h p =
      let b = (storing_bounds e off (suc left) (good_serving g).0).1 in
      let w = (good_serving g).1 in
      let cut = cut_inside_write t {m = m} {m' = m'} {is = is} {os = []} {y = y} e handle off (suc left) p h (omega (arith, b, w)) in
      let front : length (take (e.start + off) m) ≡ e.start + off = length-take-le (e.start + off) m (omega (arith, b, w)) in
      record {
        before = rw (cut, append_assoc) (take_at (take (e.start + off) m) (is ++ drop (e.start + off + length is) m) (e.start + off) front);
        behind =
            rw cut
            (drop_at (take (e.start + off) m ++ is) (drop (e.start + off + length is) m) (e.start + off + length is) (omega (arith, front, length-append (take (e.start + off) m) is)));
        lies = omega (arith, b, w);
        in_window = λ _. (omega arith, omega (arith, b));
      }

  apart_from : (x : State) (k : ℕ) (is : List ℕ) → Good t (length m) x → length is ≡ k → k ≤ offered x n → Moves (turn t) (on x m) is [] (on y m') → Parted x m m' (changed x k)
  apart_from x zero [] g l h p = untouched x (let e = unmoved p in cc)
  apart_from x zero (b ∷ is) g l h p = absurd (omega arith)
  apart_from (Shaking q) (suc k) is g l h p = untouched (Shaking q) (stores_nothing t {x = Shaking q} tt p)
  apart_from (Serving e (Header got)) (suc k) is g l h p =
      untouched (Serving e (Header got)) (stores_nothing t {x = Serving e (Header got)} (omega arith) p)
  apart_from (Serving e (Storing handle off left)) (suc k) is g l h p = rw l at (stored_apart e handle off left is g (omega arith) p)
  apart_from (Serving e (Dropping error handle left)) (suc k) is g l h p =
      untouched (Serving e (Dropping error handle left)) (stores_nothing t {x = Serving e (Dropping error handle left)} tt p)
  apart_from (Serving e (Replying error handle left off len)) (suc k) is g l h p =
      untouched (Serving e (Replying error handle left off len)) (stores_nothing t {x = Serving e (Replying error handle left off len)} tt p)
  apart_from (Serving e (Sending off left)) (suc k) is g l h p =
      untouched (Serving e (Sending off left)) (stores_nothing t {x = Serving e (Sending off left)} tt p)
  apart_from (Over j) (suc k) is g l h p = untouched (Over j) (stores_nothing t {x = Over j} tt p)

-- ---- a step without room, of any state
module _ {s : Server} {t m : List ℕ} (input : List ℕ) {r : Stepped} {m' : List ℕ} (served : Serves s t m (take (offered (view s) (length input)) input) [] r m' []) where
  by_refusal : (n : ℕ) → refusal t (length m) s ≡ n → Parted (view s) m m' (changed (view s) r.taken)
  by_refusal (suc n) e =
      let k = served.refuses (λ z. omega (arith, z, e)) in
      rw (ap (λ (x : Stepped). x.taken) k.result) (untouched (view s) k.same_image)
  by_refusal zero e =
      let g = (served.accepts e).steps.goes in
      let none-given : r.given ≡ 0 = omega (arith, g.within_room) in
      let w = g.within_input in
      let b : r.taken ≤ offered (view s) (length input) = omega (arith, w, length-take (offered (view s) (length input)) input) in
      apart_from (length input) (view s) r.taken _ (accepted t (length m) s e) (taken_length g) b (rw none-given at g.moves)

  pub taken_within : r.taken ≤ length input
  taken_within = omega (arith, (within served).0, length-take (offered (view s) (length input)) input)

  pub takes_apart : Parted (view s) m m' (changed (view s) r.taken)
  takes_apart = by_refusal (refusal t (length m) s) refl

-- ---- a step without input
module _ {s : Server} {t m room : List ℕ} {r : Stepped} {m' room' : List ℕ} (served : Serves s t m [] room r m' room') where
  none_taken : (n : ℕ) → refusal t (length m) s ≡ n → m' ≡ m
  none_taken (suc n) e = (served.refuses (λ z. omega (arith, z, e))).same_image
  none_taken zero e =
      let g = (served.accepts e).steps.goes in
      let z : r.taken ≡ 0 = omega (arith, g.within_input) in
      giving_writes_nothing t (rw z) g.moves

  pub gives_nothing : m' ≡ m
  gives_nothing = none_taken (refusal t (length m) s) refl

empty : (l : List ℕ) → length l ≡ 0 → l ≡ []
empty [] e = refl
empty (b ∷ l) e = absurd (omega arith)

module _ {s : Server} {t m input : List ℕ} {r : Stepped} {m' room' : List ℕ} (served : Serves s t m input [] r m' room') where
  emptied_by : (n : ℕ) → refusal t (length m) s ≡ n → room' ≡ []
  emptied_by zero e = empty room' (served.accepts e).steps.goes.whole
  emptied_by (suc n) e = (served.refuses (λ z. omega (arith, z, e))).same_room

  pub no_room : Serves s t m input [] r m' []
  no_room = rw (emptied_by (refusal t (length m) s) refl) at served
