-- "The export's window is a part of the lent image; no other image byte is ever written."
--   moves_untouched   of moves, from any state that a step accepts
--   step_untouched    of every step of the code, from any struct, in its ranges or not: going on, ended or refused (`Refuses` adds that such a step leaves all)
use Prim.Native.Nat.{ℕ, zero, suc, ◌+◌, ◌<◌}
use mathlib.Core.Path.{◌≡◌, refl, sym, ap, ◌∙◌}
use mathlib.Core.Bool.{Bool, true, false}
use mathlib.Core.Logic.{◌⊎◌, inl, inr}
use mathlib.Core.List.{List, [], ◌∷◌, ◌++◌}
use Rattle.std.specs.Prelude.{Option, None as none, Some}
use native.Mathlib.Omega.{arith}
use borrow.Author.Tests.{ltb-true, ltb-false}
use lib.Dec.{eqb, ltb, leb}
use lib.ListN.{length, get_or, take, drop, set, length-set, get_or-eq_default}
use lib.Seq.{take-set-le, drop-set-lt}
use Rattle.machine.specs.Machine.{On, on, gives, takes, Moves, still, by_give, by_take, Kept, Keeps}
use Rattle.machine.specs.Parts.{less}
use Rattle.machine.proofs.Moves.{kept, resting}
use Rattle.wire.specs.Fields.{number, field, same_bytes}
use Rattle.wire.specs.Constants.{IHAVEOPT, NBD_REQUEST_MAGIC}
use Rattle.wire.specs.Utf8.{whole}
use Rattle.wire.specs.Table.{records, no_record}
use Rattle.wire.specs.Lookup.{chosen}
use Rattle.wire.specs.declared.utf8.Utf8.{Utf8}
use Rattle.wire.specs.declared.table.Export.{Export}
use Rattle.server.specs.Request.{request_of, owed}
use Rattle.server.specs.Session.{Handshake, Greeting, ClientFlags, OptionHead, Naming, Passing, Listing, Declining, Aborting, Exporting}
use Rattle.server.specs.Session.{Header, Storing, Dropping, Replying, Sending, State, Shaking, Serving, Over}
use Rattle.server.specs.Session.{greeted, listing, declining, aborting, exporting, judge_flags, answered, passing, export_at, found, named, naming, payload, judge_option}
use Rattle.server.specs.Session.{sending, replying, storing, dropping, begun, requested, turn}
use Rattle.server.specs.View.{view}
use Rattle.server.specs.Ranges.{refusal}
use Rattle.server.specs.Inner.{Good}
use Rattle.server.specs.Contract.{Serves}
use Rattle.server.specs.Exchanges.{Apart, Has, announced, served, Only, Via, via, Chose, Untouched}
use Rattle.server.specs.declared.state.Server.{Server}
use Rattle.server.specs.Answers.{Stepped}
use Rattle.server.specs.declared.request.Request.{Request}
use Rattle.server.specs.declared.request.Answer.{Answer}
use Rattle.server.specs.declared.request.Answer.TheVariants.{Silence, Reply, Data, Store, Swallow, End}
use Rattle.server.proofs.Bounds.{storing_bounds, good_serving, accepted}
use Rattle.server.proofs.Kept.{picked, Stands, kept_good, still_good}

-- ---- the export stays the one that was chosen, until the end
data Own (e : Export) : State → Type 0 where
  has : {x : State} → Has x e → Own e x
  over : {n : ℕ} → Own e (Over n)

stays : {x : State} {e : Export} → Own e x → Has x e ⊎ ((n : ℕ) × (x ≡ Over n))
stays (has h) = inl h
stays (over {n = n}) = inr (n, refl)

module _ (e : Export) where
  own_exporting : (z : Bool) (left : ℕ) → Own e (exporting z e left)
  own_exporting z zero = has served
  own_exporting z (suc left) = has announced

  own_sending : (off left : ℕ) → Own e (sending e off left)
  own_sending off zero = has served
  own_sending off (suc left) = has served

  own_replying : (error handle left off len : ℕ) → Own e (replying e error handle left off len)
  own_replying error handle zero off len = own_sending off len
  own_replying error handle (suc left) off len = has served

  own_storing : (handle off left : ℕ) → Own e (storing e handle off left)
  own_storing handle off zero = has served
  own_storing handle off (suc left) = has served

  own_dropping : (error handle left : ℕ) → Own e (dropping e error handle left)
  own_dropping error handle zero = has served
  own_dropping error handle (suc left) = has served

  own_begun : (r : Request) (a : Answer) → Own e (begun e r a)
  own_begun r Silence = has served
  own_begun r (Reply error) = has served
  own_begun r Data = has served
  own_begun r Store = own_storing r.handle r.offset r.len
  own_begun r (Swallow error) = own_dropping error r.handle r.len
  own_begun r (End n) = over

  own_requested : (h : List ℕ) → Own e (requested e h)
  unfolding requested
  own_requested h =
      picked (Own e) (eqb (length h) 4) (λ _. picked (Own e) (eqb (number h) NBD_REQUEST_MAGIC) (λ _. has served) (λ _. over))
      λ _. picked (Own e) (ltb (length h) 28) (λ _. has served) (λ _. own_begun (request_of h) (owed e (request_of h)))

-- ---- each turn
apart_same : {e : Export} {m m' : List ℕ} → m' ≡ m → Apart e m m'
apart_same {e} q = record { as_long = ap length q; before = ap (take e.start) q; behind = ap (drop (e.start + e.size)) q }

apart_set : (e : Export) (m₀ m : List ℕ) (off b : ℕ) → off < e.size → Apart e m₀ m → Apart e m₀ (set m (e.start + off) b)
apart_set e m₀ m off b h a = record {
  as_long = length-set m (e.start + off) b ∙ a.as_long;
  before = take-set-le e.start m (e.start + off) b (omega arith) ∙ a.before;
  behind = drop-set-lt (e.start + e.size) m (e.start + off) b (omega arith) ∙ a.behind;
}

module _ (t m₀ : List ℕ) (e : Export) where
  record Inside (x : State) (m : List ℕ) : Type 0 where
    stands : Stands t (length m₀) (on x m)
    own : Own e x
    apart : Apart e m₀ m

  Holds : On State → Type 0
  Holds (on x m) = Inside x m

  kept_apart : Keeps (turn t) Holds
  unfolding Holds Stands
  kept_apart (on x m) h = go h.own h.stands (kept_good t (length m₀) (on x m) h.stands)
    where
      go : {x : State} → Own e x → Stands t (length m₀) (on x m) → Kept (Stands t (length m₀)) (turn t (on x m)) → Kept Holds (turn t (on x m))
      go (has (announced {z = z} {left = left})) s k = record { stands = k; own = own_exporting e z (less left); apart = h.apart }
      go (has (served {p = Header got})) s k = λ b. record { stands = k b; own = own_requested e (got ++ b ∷ []); apart = h.apart }
      go (has (served {p = Storing handle off left})) s k =
          let f = storing_bounds e off left (good_serving s.1).0 in
          let i : off < e.size = omega (arith, f.0, f.1) in
          λ b. record { stands = k b; own = own_storing e handle (suc off) (less left); apart = apart_set e m₀ m off b i h.apart }
      go (has (served {p = Dropping error handle left})) s k = λ b. record { stands = k b; own = own_dropping e error handle (less left); apart = h.apart }
      go (has (served {p = Replying error handle left off len})) s k = record { stands = k; own = own_replying e error handle (less left) off len; apart = h.apart }
      go (has (served {p = Sending off left})) s k = record { stands = k; own = own_sending e (suc off) (less left); apart = h.apart }
      go over s k = tt

only : {t m m' is os : List ℕ} {e : Export} {x y : State} → Good t (length m) x → Moves (turn t) (on x m) is os (on y m') → Has x e → Only e m y m'
unfolding Holds Stands
only {t} {m} {e = e} g r h =
    let i = kept {P = Holds t m e} (kept_apart t m e) r (record { stands = (refl, g); own = has h; apart = apart_same refl }) in
    record { apart = i.apart; stays = stays i.own }

-- ---- the handshake while no export is chosen
abbrev None : Handshake → Type 0
None (Greeting left) = Unit {0}
None (ClientFlags got) = Unit {0}
None (OptionHead z got) = Unit {0}
None (Naming z fits text at left) = Unit {0}
None (Passing z option len left) = Unit {0}
None (Listing z left) = Unit {0}
None (Declining z option left) = Unit {0}
None (Aborting left) = Unit {0}
None (Exporting z e left) = ⊥

has_none : {p : Handshake} {e : Export} → None p → Has (Shaking p) e → ⊥
has_none h announced = h

module _ (t m₀ : List ℕ) where
  -- where a turn of it leads, with the image as it was
  data Led : On State → Type 0 where
    on_way : (p : Handshake) → ((e : Export) → Has (Shaking p) e → ⊥) → Led (on (Shaking p) m₀)
    at_choice : (z : Bool) (k : ℕ) → Led (on (found z t (Some k)) m₀)
    at_end : {n : ℕ} → Led (on (Over n) m₀)

  abbrev L : State → Type 0
  L x = Led (on x m₀)

  plain : {p : Handshake} → None p → L (Shaking p)
  plain {p} h = on_way p (λ e. has_none h)

  led_greeted : (left : ℕ) → L (greeted left)
  led_greeted zero = plain tt
  led_greeted (suc left) = plain tt

  led_listing : (z : Bool) (left : ℕ) → L (listing z left)
  led_listing z zero = plain tt
  led_listing z (suc left) = plain tt

  led_declining : (z : Bool) (option left : ℕ) → L (declining z option left)
  led_declining z option zero = plain tt
  led_declining z option (suc left) = plain tt

  led_aborting : (left : ℕ) → L (aborting left)
  led_aborting zero = at_end
  led_aborting (suc left) = plain tt

  led_flagged : (h : List ℕ) → L (judge_flags h)
  unfolding judge_flags
  led_flagged h =
      picked L (ltb (length h) 4) (λ _. plain tt)
      λ _. picked L (eqb (number h) 1) (λ _. plain tt) λ _. picked L (eqb (number h) 3) (λ _. plain tt) (λ _. at_end)

  led_answered : (z : Bool) (option len : ℕ) → L (answered z option len)
  unfolding answered
  led_answered z option len =
      picked L (eqb option 2) (λ _. plain tt)
      λ _. picked L (eqb option 3) (λ _. picked L (eqb len 0) (λ _. plain tt) (λ _. at_end))
      λ _. picked L (eqb option 5) (λ _. at_end)
      λ _. picked L (eqb option 6) (λ _. plain tt)
      λ _. picked L (eqb option 7) (λ _. plain tt)
      λ _. picked L (eqb option 8) (λ _. plain tt)
      λ _. picked L (eqb option 11) (λ _. plain tt) (λ _. at_end)

  led_passing : (z : Bool) (option len left : ℕ) → L (passing z option len left)
  led_passing z option len zero = led_answered z option len
  led_passing z option len (suc left) = plain tt

  led_found : (z : Bool) (o : Option ℕ) → L (found z t o)
  led_found z none = at_end
  led_found z (Some k) = at_choice z k

  led_naming : (z : Bool) (fits : List Bool) (text : Utf8) (at left : ℕ) → L (naming z t fits text at left)
  unfolding named
  led_naming z fits text at zero = picked L (whole text) (λ _. led_found z (chosen fits)) (λ _. at_end)
  led_naming z fits text at (suc left) = plain tt

  led_opted : (z : Bool) (h : List ℕ) → L (judge_option z t h)
  unfolding judge_option payload
  led_opted z h =
      picked L (eqb (length h) 8) (λ _. picked L (same_bytes h IHAVEOPT) (λ _. plain tt) (λ _. at_end))
      λ _. picked L (ltb (length h) 16) (λ _. plain tt)
      λ _. picked L (leb (field h 12 4) 100000)
      (λ _. picked L (eqb (field h 8 4) 1) (λ _. led_naming z _ _ 0 (field h 12 4)) (λ _. led_passing z (field h 8 4) (field h 12 4) (field h 12 4))) (λ _. at_end)

  led : (p : Handshake) → ((e : Export) → Has (Shaking p) e → ⊥) → Kept Led (turn t (on (Shaking p) m₀))
  led (Greeting left) h = led_greeted (less left)
  led (ClientFlags got) h = λ b. led_flagged (got ++ b ∷ [])
  led (OptionHead z got) h = λ b. led_opted z (got ++ b ∷ [])
  led (Naming z fits text at left) h = λ b. led_naming z _ _ (suc at) (less left)
  led (Passing z option len left) h = λ b. led_passing z option len (less left)
  led (Listing z left) h = led_listing z (less left)
  led (Declining z option left) h = led_declining z option (less left)
  led (Aborting left) h = led_aborting (less left)
  led (Exporting z e left) h = absurd (h e announced)

  -- ---- moves from there: the image is as it was, or they pass the place where an export is chosen
  data Ways (x : On State) (is os : List ℕ) (y : On State) : Type 0 where
    unchosen : {z : State} → y ≡ on z m₀ → Ways x is os y
    by_choice : (z : Bool) (k : ℕ) → Via (turn t) x (on (found z t (Some k)) m₀) y is os → Ways x is os y

  first_given : {x y z : On State} {b : ℕ} {is os : List ℕ} → turn t x ≡ gives b y → Ways y is os z → Ways x is (b ∷ os) z
  first_given q (unchosen e) = unchosen e
  first_given q (by_choice z k (via p r)) = by_choice z k (via (by_give q p) r)

  first_taken : {x z : On State} {k : ℕ → On State} {b : ℕ} {is os : List ℕ} → turn t x ≡ takes k → Ways (k b) is os z → Ways x (b ∷ is) os z
  first_taken q (unchosen e) = unchosen e
  first_taken q (by_choice z k (via p r)) = by_choice z k (via (by_take q p) r)

  stayed : {x : On State} → Led x → Ways x [] [] x
  stayed (on_way p h) = unchosen refl
  stayed (at_choice z k) = unchosen refl
  stayed at_end = unchosen refl

  one_given : {x y z : On State} {b : ℕ} {is os : List ℕ} → Led x → turn t x ≡ gives b y → Moves (turn t) y is os z → (Led y → Ways y is os z) → Ways x is (b ∷ os) z
  one_given (on_way p h) q r more = first_given q (more (rw q at (led p h)))
  one_given (at_choice z k) q r more = by_choice z k (via still (by_give q r))
  one_given at_end q r more = absurd (let z : ◌≡◌ {A = ℕ} 0 1 = cc in omega arith)

  one_taken : {x z : On State} {k : ℕ → On State} {b : ℕ} {is os : List ℕ} → Led x → turn t x ≡ takes k → Moves (turn t) (k b) is os z → (Led (k b) → Ways (k b) is os z)
      → Ways x (b ∷ is) os z
  one_taken {b = b} (on_way p h) q r more = first_taken q (more ((rw q at (led p h)) b))
  one_taken (at_choice z k) q r more = by_choice z k (via still (by_take q r))
  one_taken at_end q r more = absurd (let z : ◌≡◌ {A = ℕ} 0 1 = cc in omega arith)

  followed : {x y : On State} {is os : List ℕ} → Led x → Moves (turn t) x is os y → Ways x is os y
  followed l still = stayed l
  followed l (by_give q r) = one_given l q r (λ k. followed k r)
  followed l (by_take q r) = one_taken l q r (λ k. followed k r)

-- ---- wherever the moves began
-- a number that no record has stands for an empty window: then nothing was written
some_record : (t : List ℕ) (k : ℕ) {m m' : List ℕ} → Apart (export_at t k) m m' → (k < length (records t)) ⊎ (m' ≡ m)
some_record t k {m} {m'} a = go (ltb k (length (records t))) refl
  where
    go : (b : Bool) → ltb k (length (records t)) ≡ b → (k < length (records t)) ⊎ (m' ≡ m)
    go true q = inl (ltb-true k (length (records t)) q)
    go false q = let d : get_or (records t) k no_record ≡ no_record = get_or-eq_default (records t) no_record (ltb-false k (length (records t)) q) in inr (rw d at a.behind)

passed : (t : List ℕ) (k : ℕ) {z : Bool} {m m' is os : List ℕ} {x y : State} → Good t (length m) x
    → Via (turn t) (on x m) (on (found z t (Some k)) m) (on y m') is os → Only (export_at t k) m y m'
passed t k g (via p r) = only (still_good p g).1 r announced

chose : {t m m' is os : List ℕ} {x y : State} → Good t (length m) x → Ways t m (on x m) is os (on y m') → (m' ≡ m) ⊎ Chose t m x is os y m'
chose g (unchosen e) = inl cc
chose {t} {m} {m'} {is} {os} {x} {y} g (by_choice z k w) = go (some_record t k (passed t k g w).apart)
  where
    go : (k < length (records t)) ⊎ (m' ≡ m) → (m' ≡ m) ⊎ Chose t m x is os y m'
    go (inl l) = inr record { number = k; listed = l; zeroes = z; way = w; only = passed t k g w }
    go (inr q) = inl q

rested : (t : List ℕ) {m m' is os : List ℕ} {y : State} {n : ℕ} → Moves (turn t) (on (Over n) m) is os (on y m') → m' ≡ m
rested t {m} {n = n} r = let s = (resting {x = on (Over n) m} refl r).2 in cc

module _ {t m m' is os : List ℕ} {y : State} where
  from_none : (x : State) → ((e : Export) → Has x e → ⊥) → Good t (length m) x → Moves (turn t) (on x m) is os (on y m') → (m' ≡ m) ⊎ Chose t m x is os y m'
  from_none (Shaking p) h g r = chose g (followed t m (on_way p h) r)
  from_none (Serving e p) h g r = absurd (h e served)
  from_none (Over n) h g r = inl (rested t r)

  pub moves_untouched : {x : State} → Good t (length m) x → Moves (turn t) (on x m) is os (on y m') → Untouched t m x is os y m'
  moves_untouched {x} g r = record { had = only g r; had_none = λ h. from_none x h g r; ended = λ q. rested t (rw q at r) }

pub step_untouched : {self : Server} {t m input room : List ℕ} {r : Stepped} {m' room' : List ℕ} → Serves self t m input room r m' room'
    → Untouched t m (view self) (take r.taken input) (take r.given room') (view r.state) m'
step_untouched {self} {t} {m} {input} {room} {r} {m'} {room'} s = go (refusal t (length m) self) refl
  where
    go : (n : ℕ) → refusal t (length m) self ≡ n → Untouched t m (view self) (take r.taken input) (take r.given room') (view r.state) m'
    go zero q = moves_untouched (accepted t (length m) self q) (s.accepts q).steps.goes.moves
    go (suc n) q =
        let f = s.refuses (λ z. omega (arith, sym q ∙ z)) in
        let v : view r.state ≡ view self = ap (λ (z : Stepped). view z.state) f.result in
        record {
          had = λ h. record { apart = apart_same f.same_image; stays = inl (rw v h) };
          had_none = λ _. inl f.same_image;
          ended = λ _. f.same_image;
        }
