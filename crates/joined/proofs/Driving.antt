-- A client with calls to make moves as the client does, and makes the calls that the client's contracts speak of.
--   followed, follows    its moves are the client's
--   told                 a step's outcome, collected, is what the place it came to says
--   made, lends          a call on a ready client: what its contract says is what the driver has
--   not_blank_after      and it leads to no blank client
--   already              so the driver stands there before the call is made
--   shaken_already       and before the handshake is called
use Prim.Native.Nat.{ℕ, ◌≤◌}
use mathlib.Core.Path.{◌≡◌, refl, sym, ap, ◌∙◌}
use mathlib.Core.Bool.{Bool, true, false}
use mathlib.Core.List.{List, [], ◌∷◌}
use Rattle.std.specs.Prelude.{Option, None, Some}
use borrow.Author.Tests.{eq-eqb}
use lib.Dec.{eqb}
use lib.ListN.{length}
use Rattle.std.specs.Prelude.{Result, Ok}
use Rattle.machine.specs.Choice.{pick}
use Rattle.machine.specs.Machine.{On, on, Moves}
use Rattle.machine.specs.Follows.{Follows}
use Rattle.machine.proofs.Follows.{follows_moves}
use Rattle.client.specs.Calls.{transfer, sought, amount, value_of}
use Rattle.client.specs.Session.{State, Blank, Shaking, Ready, Calling, Closed, Over, turn}
use Rattle.client.specs.View.{view}
use Rattle.client.specs.Ranges.{in_range, lent_to, same_loan}
use Rattle.client.specs.Contract.{shaken, call_check, called, answer, opened, granted_at, granted_on, moving, sought_to, after, outcome_of}
use Rattle.client.specs.declared.state.Device.{Device}
use Rattle.client.specs.declared.state.Call as request
use Rattle.client.specs.declared.state.Call.TheVariants.{Read, Write, Flush, Trim}
use Rattle.client.specs.declared.state.Client.{Client}
use Rattle.client.specs.declared.state.Outcome.TheVariants.{Succeeded}
use Rattle.client.specs.Answers.{Called}
use Rattle.client.specs.declared.refusal.Refusal.{Refusal}
use Rattle.wire.specs.Results as results
use Rattle.joined.specs.Disk.{Call, read, write, seek, flush, trim}
use Rattle.joined.specs.Code.{seek_from, calls, buffer, collected}
use Rattle.joined.proofs.Called.{NotBlank, begun}
use Rattle.joined.proofs.Driver.{Begun, out, shut, granted, sought_at, begin, going, next, settle, drive}

module _ (ks : List Call) (rs : List results.Result) where
  pub followed : Follows turn drive (λ x. settle x ks rs)
  followed (on Blank m) h = absurd (h refl)
  followed (on (Shaking n p) m) h = refl
  followed (on (Ready d) m) h = absurd (h refl)
  followed (on (Calling d c p) m) h = refl
  followed (on (Closed o d) m) h = absurd (h refl)
  followed (on (Over n) m) h = refl

  pub follows : {x y : On State} {is os : List ℕ} → Moves turn x is os y → Moves drive (settle x ks rs) is os (settle y ks rs)
  follows = follows_moves (λ x. settle x ks rs) followed

  pub told : (x : State) (m : List ℕ) → settle (on (after x) m) ks (collected (outcome_of x) m rs) ≡ settle (on x m) ks rs
  told Blank m = refl
  told (Shaking n p) m = refl
  told (Ready d) m = refl
  told (Calling d c p) m = refl
  told (Closed o d) m = refl
  told (Over n) m = refl

-- ---- a call on a ready client
abbrev Made : Device → Begun → Called → Type 0
Made d (out q) r = r ≡ opened d q
Made d (shut o d') r = (r.outcome ≡ o) × (view r.state ≡ Ready d')

module _ (c : Client) (d : Device) (ready : view c ≡ Ready d) where
  moving_made : (f : ℕ → request.Call) (o : Option ℕ) → Made d (granted d f o) (moving c f (granted_at d o))
  moving_made f None = (refl, ready)
  moving_made f (Some n) = go (eqb (amount (f n)) 0)
    where
      go : (b : Bool) → Made d (pick b (shut (Succeeded (value_of (f n))) d) (out (f n))) (pick b (answer (Ready d) (Succeeded (value_of (f n)))) (opened d (f n)))
      go true = (refl, refl)
      go false = refl

  sought_made : (o : Option ℕ) → Made d (sought_at d o) (sought_to c d o)
  sought_made None = (refl, ready)
  sought_made (Some p) = (refl, refl)

  module _ (fine : in_range c ≡ true) where
    may_on : call_check c ≡ Ok d
    may_on = rw (fine, ready)

    pub made : (k : Call) → Made d (begin d k) (calls k c)
    made (read buf) =
        let f : ℕ → request.Call = λ n. Read n (length buf) in
        rw (ap (λ (x : Result Device Refusal). moving c f (granted_on (length buf) x)) may_on) (moving_made f (transfer d (length buf)))
    made (write buf) =
        let f : ℕ → request.Call = λ n. Write n (length buf) in
        rw (ap (λ (x : Result Device Refusal). moving c f (granted_on (length buf) x)) may_on) (moving_made f (transfer d (length buf)))
    made (seek f) = rw (ap (λ (x : Result Device Refusal). called c (λ e. sought_to c e (sought e (seek_from f))) x) may_on) (sought_made (sought d (seek_from f)))
    made flush = ap (λ (x : Result Device Refusal). called c (λ e. opened e Flush) x) may_on
    made (trim k) = rw (ap (λ (x : Result Device Refusal). moving c Trim (granted_on k x)) may_on) (moving_made Trim (transfer d k))

-- ---- what is lent to a call that goes out
abbrev Lends : List ℕ → Begun → Type 0
Lends buf (out q) = lent_to q ≡ length buf
Lends buf (shut o d) = Unit {0}

granted_lends : (d : Device) (f : ℕ → request.Call) (buf : List ℕ) → ((n : ℕ) → lent_to (f n) ≡ length buf) → (o : Option ℕ) → Lends buf (granted d f o)
granted_lends d f buf h None = tt
granted_lends d f buf h (Some n) = go (eqb (amount (f n)) 0)
  where
    go : (b : Bool) → Lends buf (pick b (shut (Succeeded (value_of (f n))) d) (out (f n)))
    go true = tt
    go false = h n

sought_lends : (d : Device) (o : Option ℕ) → Lends [] (sought_at d o)
sought_lends d None = tt
sought_lends d (Some p) = tt

lends : (d : Device) (k : Call) → Lends (buffer k) (begin d k)
lends d (read buf) = granted_lends d (λ n. Read n (length buf)) buf (λ n. refl) (transfer d (length buf))
lends d (write buf) = granted_lends d (λ n. Write n (length buf)) buf (λ n. refl) (transfer d (length buf))
lends d (seek f) = sought_lends d (sought d (seek_from f))
lends d flush = refl
lends d (trim k) = granted_lends d Trim [] (λ n. refl) (transfer d k)

lent_to_lem : (d : Device) (b : Begun) (buf : List ℕ) (r : Called) → Made d b r → Lends buf b → same_loan (length buf) (view r.state) ≡ true
lent_to_lem d (out q) buf r e h = rw e (eq-eqb (lent_to q) (length buf) h)
lent_to_lem d (shut o d') buf r e h = rw e.1

stands_at : (d : Device) (b : Begun) (buf : List ℕ) (r : Called) (ks : List Call) (rs : List results.Result) → Made d b r
    → settle (on (view r.state) buf) ks (collected r.outcome buf rs) ≡ going d b buf ks rs (λ d' rs'. next d' ks rs')
stands_at d (out q) buf r ks rs e = rw e
stands_at d (shut o d') buf r ks rs e = rw (e.0, e.1)

module _ (k : Call) (c : Client) (d : Device) (ready : view c ≡ Ready d) (fine : in_range c ≡ true) where
  pub lent_after : same_loan (length (buffer k)) (view (calls k c).state) ≡ true
  lent_after = lent_to_lem d (begin d k) (buffer k) (calls k c) (made c d ready fine k) (lends d k)

  pub not_blank_after : NotBlank (view (calls k c).state)
  not_blank_after = go (begin d k) (calls k c) (made c d ready fine k)
    where
      go : (b : Begun) (r : Called) → Made d b r → NotBlank (view r.state)
      go (out q) r e = rw e tt
      go (shut o d') r e = rw e.1 tt

  pub already : (m : List ℕ) (ks : List Call) (rs : List results.Result)
      → settle (on (view (calls k c).state) (buffer k)) ks (collected (calls k c).outcome (buffer k) rs) ≡ settle (on (view c) m) (k ∷ ks) rs
  already m ks rs = stands_at d (begin d k) (buffer k) (calls k c) ks rs (made c d ready fine k) ∙ ap (λ (x : State). settle (on x m) (k ∷ ks) rs) (sym ready)

pub shaken_already : (c : Client) (m : List ℕ) (ks : List Call) (rs : List results.Result) → view c ≡ Blank → in_range c ≡ true → length m ≤ 4096
    → settle (on (view (shaken (length m) c).state) m) ks (collected (shaken (length m) c).outcome m rs) ≡ settle (on (view c) m) ks rs
shaken_already c m ks rs blank fine h =
    ap (λ (r : Called). settle (on (view r.state) m) ks (collected r.outcome m rs)) (begun c (length m) blank fine h)
    ∙ ap (λ (x : State). settle (on x m) ks rs) (sym blank)
