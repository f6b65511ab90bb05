-- A WRITE's payload.
--   payload_dropped, payload_stored   the bytes of a payload, refused or accepted, then the reply, then the next request
--   payload_swallowed   a refused payload is taken whole and changes nothing: all of its bytes, then the reply with its error
--   reply_waits_..      "The whole payload is taken before any reply"
--   giving_writes_nothing   bytes given leave the image as it is
--   cut_inside_write    "If the connection is cut inside a WRITE, the image holds exactly the payload bytes that were taken"
use Prim.Native.Nat.{ℕ, suc, ◌+◌, ◌-◌, ◌≤◌, ◌<◌}
use mathlib.Core.Path.{◌≡◌, refl, sym, ◌∙◌}
use mathlib.Core.Logic.{◌⊎◌, inl, inr}
use mathlib.Core.List.{List, [], ◌∷◌, ◌++◌, append-nil}
use native.Mathlib.Omega.{arith}
use lib.ListN.{length, take, drop}
use lib.Seq.{sets, sets-eq}
use Rattle.machine.specs.Machine.{On, on, Turn, gives, takes, rests, Moves, still, by_give, by_take}
use Rattle.machine.specs.Stream.{Further}
use Rattle.machine.proofs.Bulk.{drops}
use Rattle.machine.proofs.Cutting.{one_way}
use Rattle.wire.specs.Layouts.{simple_reply}
use Rattle.wire.specs.declared.table.Export.{Export}
use Rattle.server.specs.Request.{owed}
use Rattle.server.specs.declared.request.Request.{Request}
use Rattle.server.specs.declared.request.Answer.TheVariants.{Swallow}
use Rattle.server.specs.Session.{Greeting, ClientFlags, OptionHead, Naming, Passing, Listing, Declining, Aborting, Exporting}
use Rattle.server.specs.Session.{Header, Storing, Dropping, Replying, Sending, State, Shaking, Serving, Over, dropping, storing, begun, turn}
use Rattle.server.proofs.Session.{each_dropped}
use Rattle.server.proofs.Window.{stored}
use Rattle.server.proofs.Whole.{and_gives, reply_given}

module _ (t m : List ℕ) (e : Export) where
  pub payload_dropped : (error handle : ℕ) (payload : List ℕ)
      → Moves (turn t) (on (dropping e error handle (length payload)) m) payload (simple_reply error handle) (on (Serving e (Header [])) m)
  payload_dropped error handle payload =
      and_gives t (drops (turn t) (dropping e error handle) (each_dropped t e error handle) payload (length payload) 0 m (omega arith)) (reply_given t m e error handle 0 0)

  pub payload_stored : (handle offset : ℕ) (payload : List ℕ)
      → Moves (turn t) (on (storing e handle offset (length payload)) m) payload (simple_reply 0 handle) (on (Serving e (Header [])) (sets m (e.start + offset) payload))
  payload_stored handle offset payload =
      and_gives t (stored t e handle payload offset (length payload) 0 (offset + length payload) m (omega arith) refl)
      (reply_given t (sets m (e.start + offset) payload) e 0 handle 0 0)

  -- from the place just after the header of a WRITE that is refused
  pub payload_swallowed : (r : Request) (error : ℕ) (payload : List ℕ) → owed e r ≡ Swallow error → r.len ≡ length payload
      → Moves (turn t) (on (begun e r (owed e r)) m) payload (simple_reply error r.handle) (on (Serving e (Header [])) m)
  payload_swallowed r error payload o l = rw (o, l) (payload_dropped error r.handle payload)

-- ---- what is given leaves the image
abbrev image : On State → List ℕ
image (on x m) = m

abbrev Leaves : List ℕ → Turn (On State) → Type 0
Leaves m (gives b x) = image x ≡ m
Leaves m (takes k) = Unit {0}
Leaves m rests = Unit {0}

giving_leaves : (t : List ℕ) (x : On State) → Leaves (image x) (turn t x)
giving_leaves t (on (Shaking (Greeting left)) m) = refl
giving_leaves t (on (Shaking (ClientFlags got)) m) = tt
giving_leaves t (on (Shaking (OptionHead z got)) m) = tt
giving_leaves t (on (Shaking (Naming z fits text at left)) m) = tt
giving_leaves t (on (Shaking (Passing z option len left)) m) = tt
giving_leaves t (on (Shaking (Listing z left)) m) = refl
giving_leaves t (on (Shaking (Declining z option left)) m) = refl
giving_leaves t (on (Shaking (Aborting left)) m) = refl
giving_leaves t (on (Shaking (Exporting z e left)) m) = refl
giving_leaves t (on (Serving e (Header got)) m) = tt
giving_leaves t (on (Serving e (Storing handle off left)) m) = tt
giving_leaves t (on (Serving e (Dropping error handle left)) m) = tt
giving_leaves t (on (Serving e (Replying error handle left off len)) m) = refl
giving_leaves t (on (Serving e (Sending off left)) m) = refl
giving_leaves t (on (Over n) m) = tt

pub giving_writes_nothing : (t : List ℕ) {is os : List ℕ} {x y : On State} → is ≡ [] → Moves (turn t) x is os y → image y ≡ image x
giving_writes_nothing t e still = refl
giving_writes_nothing t {x = x} e (by_give q p) = giving_writes_nothing t e p ∙ rw q at (giving_leaves t x)
giving_writes_nothing t e (by_take q p) = absurd (let z : ◌≡◌ {A = ℕ} 0 1 = cc in omega arith)

-- ---- a cut
no_more : (l : List ℕ) → [] ≡ l ++ [] → l ≡ []
no_more l e = sym (append-nil l) ∙ sym e

-- the same input, up to a place where a byte is wanted and nothing was given
waits : (t : List ℕ) {is os : List ℕ} {x y z : On State} {k : ℕ → On State} → Moves (turn t) x is [] z → turn t z ≡ takes k → Moves (turn t) x is os y → os ≡ []
waits t {is} {os} {x} {y} {z} p w q = place (one_way {rest = []} {rest' = []} q p refl)
  where
    first_none : (l more : List ℕ) → [] ≡ l ++ more → l ≡ []
    first_none [] more e = refl
    first_none (b ∷ l) more e = absurd (let z : ◌≡◌ {A = ℕ} 0 1 = cc in omega arith)

    wanting : {js ps : List ℕ} {x : On State} → turn t x ≡ turn t z → js ≡ [] → Moves (turn t) x js ps y → ps ≡ []
    wanting s e still = refl
    wanting s e (by_give g r) = absurd (let z : ◌≡◌ {A = ℕ} 0 1 = cc in omega arith)
    wanting s e (by_take g r) = absurd (let z : ◌≡◌ {A = ℕ} 0 1 = cc in omega arith)

    place : Further (turn t) os y [] [] z [] ⊎ Further (turn t) [] z [] os y [] → os ≡ []
    place (inl f) = first_none os f.more_out f.all_out
    place (inr f) = f.all_out ∙ wanting refl (no_more f.more_in f.all_in) f.goes_on

module _ (t : List ℕ) {m m' is os : List ℕ} {y : State} (e : Export) (handle left : ℕ) (part : length is < left) where
  pub reply_waits_refused : (error : ℕ) → Moves (turn t) (on (dropping e error handle left) m) is os (on y m') → os ≡ []
  reply_waits_refused error p =
      waits t (drops (turn t) (dropping e error handle) (each_dropped t e error handle) is left (suc (left - suc (length is))) m (omega arith)) refl p

  pub reply_waits_stored : (offset : ℕ) → Moves (turn t) (on (storing e handle offset left) m) is os (on y m') → os ≡ []
  reply_waits_stored offset p =
      waits t (stored t e handle is offset left (suc (left - suc (length is))) (offset + length is) m (omega arith) refl) refl p

-- from the place after an accepted header, or a later place in the payload: whatever part of what is left has been taken, these bytes stand at their place
-- in the window, and all the others of the image are as they were
pub cut_inside_write : (t : List ℕ) {m m' is os : List ℕ} {y : State} (e : Export) (handle offset left : ℕ)
    → Moves (turn t) (on (storing e handle offset left) m) is os (on y m') → length is ≤ left → e.start + offset + length is ≤ length m
    → m' ≡ take (e.start + offset) m ++ is ++ drop (e.start + offset + length is) m
cut_inside_write t {m} {m'} {is} {os} {y} e handle offset left p fits inside =
    place (one_way {rest = []} {rest' = []} p (stored t e handle is offset left (left - length is) (offset + length is) m (omega arith) refl) refl)
    ∙ sets-eq is m (e.start + offset) inside
  where
    place : {z : State} {m₁ : List ℕ} → Further (turn t) os (on y m') [] [] (on z m₁) [] ⊎ Further (turn t) [] (on z m₁) [] os (on y m') [] → m' ≡ m₁
    place (inl f) = sym (giving_writes_nothing t (no_more f.more_in f.all_in) f.goes_on)
    place (inr f) = giving_writes_nothing t (no_more f.more_in f.all_in) f.goes_on
