-- Document 000's `transmission` and the machine's, from a chosen export to the end of the session.
--   bytes_behind        what stands behind bytes that are taken is bytes
--   transmission_same   on the domain
use Prim.Native.Nat.{ℕ, zero, suc, ◌<◌}
use mathlib.Core.Path.{◌≡◌, ap}
use mathlib.Core.List.{List, [], ◌∷◌, ◌++◌}
use native.Mathlib.Omega.{arith}
use lib.ListN.{length, length-append}
use Rattle.machine.specs.Machine.{on}
use Rattle.wire.specs.Fields.{Bytes}
use Rattle.wire.specs.declared.table.Export.{Export}
use Rattle.server.specs.Session.{Header, Serving, window}
use Rattle.server.specs.Inner.{Good}
use Rattle.server.specs.Exchanges.{Apart, served}
use Rattle.server.proofs.Bounds.{good_serving}
use Rattle.server.proofs.Kept.{next_good}
use Rattle.server.proofs.Untouched.{moves_untouched}
use Rattle.original.specs.Connection.{Served}
use Rattle.original.specs.Transmission.{Next, again, stop, onward, one_request, transmission}
use Rattle.original.specs.Server.{windowed, in_image, Onward, Within}
use Rattle.original.proofs.Reaches.{reaches_then}
use Rattle.original.proofs.Meets.{Meets}
use Rattle.original.proofs.Requests.{Step, step_request}

pub bytes_behind : (a b : List ℕ) → Bytes (a ++ b) → Bytes b
bytes_behind [] b h = h
bytes_behind (x ∷ a) b h = bytes_behind a b h.1

-- two images that differ only in the window
same_place : {e : Export} {m m' : List ℕ} (bytes : List ℕ) → Apart e m m' → windowed m' e bytes ≡ windowed m e bytes
same_place bytes a = rw (a.before, a.behind)

module _ (t : List ℕ) (e : Export) where
  abbrev Agrees : ℕ → List ℕ → List ℕ → Type 0
  Agrees k m input = Meets t (on (Serving e (Header [])) m) input (in_image m e (transmission k (window e m) input))

  -- for any image and input
  abbrev All : ℕ → Type 0
  All k = (m input : List ℕ) → Bytes input → length input < k → Good t (length m) (Serving e (Header [])) → Within k e (window e m) input → Agrees k m input

  goes_on : (k : ℕ) → All k → (m input : List ℕ) → Bytes input → length input < suc k → Good t (length m) (Serving e (Header []))
      → (n : Next) → Step t m e input n → Onward n (Within k e) → Meets t (on (Serving e (Header [])) m) input (in_image m e (onward n (transmission k)))
  goes_on k all m input bytes h good (stop sent device left outcome) p d = p
  goes_on k all m input bytes h good (again sent device left) w d =
      let b : Bytes left = bytes_behind w.taken left (rw w.all_in at bytes) in
      let l : length left < k = omega (arith, ap length w.all_in, length-append w.taken left, w.some_taken) in
      let rest : Agrees k w.image left = all w.image left b l (next_good w.moves good) (rw w.holds at d) in
      let r : Served = transmission k (window e w.image) left in
      let i : windowed w.image e r.device ≡ windowed m e r.device = same_place r.device ((moves_untouched good w.moves).had served).apart in
      rw w.holds (reaches_then w.moves w.all_in (rw i at rest))

  pub transmission_same : (k : ℕ) → All k
  unfolding Within transmission
  transmission_same zero m input bytes h good d = absurd (omega arith)
  transmission_same (suc k) m input bytes h good d =
      goes_on k (transmission_same k) m input bytes h good (one_request (window e m) input) (step_request t m e input bytes (good_serving good).1 d.0) d.1
