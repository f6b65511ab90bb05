-- A name that passes: each byte changes what is known of it.
--   Seen, sees  what is known of a name so far, and one byte more
--   seen        what a part of a name leaves: its exports, its text and its place
--   each_seen   so the bytes of a name are taken
--   name_leaf   a part of a name is moves of the machine
use Prim.Native.Nat.{ℕ, suc, min, ◌+◌, ◌-◌, ◌<◌}
use mathlib.Core.Path.{◌≡◌, refl, sym, ap, ◌∙◌}
use mathlib.Core.Bool.{Bool}
use mathlib.Core.List.{List, [], ◌∷◌, foldl}
use native.Mathlib.Omega.{arith}
use lib.ListN.{length, take}
use Rattle.machine.specs.Machine.{on}
use Rattle.machine.specs.Pieces.{Absorbs}
use Rattle.machine.proofs.Families.{Folds}
use Rattle.machine.proofs.Leaves.{fold_leaf}
use Rattle.wire.specs.Utf8.{next, run}
use Rattle.wire.specs.Table.{records}
use Rattle.wire.specs.Lookup.{narrowed, narrowed_by}
use Rattle.wire.specs.declared.utf8.Utf8.{Utf8}
use Rattle.server.specs.Session.{State, Naming, Shaking, naming, turn}
use Rattle.server.proofs.Left.{naming_more}

pub record Seen : Type 0 where
  pub fits : List Bool
  pub text : Utf8
  pub at : ℕ

abbrev pub sees : List ℕ → Seen → ℕ → Seen
sees t v b = record { fits = narrowed (records t) v.at b v.fits; text = next v.text b; at = suc v.at }

pub seen : (t part : List ℕ) (fits : List Bool) (text : Utf8) (at : ℕ)
    → foldl (sees t) (record { fits = fits; text = text; at = at }) part
    ≡ record { fits = narrowed_by (records t) at part fits; text = run text part; at = at + length part }
seen t [] fits text at =
    let i : at + 0 ≡ at = omega arith in
    rw i
seen t (b ∷ part) fits text at =
    let i : suc at + length part ≡ at + suc (length part) = omega arith in
    rw (seen t part (narrowed (records t) at b fits) (next text b) (suc at), i)

abbrev pub stands : Bool → List ℕ → Seen → ℕ → State
stands z t v left = naming z t v.fits v.text v.at left

pub each_seen : (z : Bool) (t m : List ℕ) → Folds (turn t) (stands z t) (sees t) m
each_seen z t m v left = refl

pub name_leaf : (z : Bool) (t m : List ℕ) (fits : List Bool) (text : Utf8) (at : ℕ) {input : List ℕ} {left n : ℕ} {x : State} → 0 < left → n ≡ min left (length input)
    → x ≡ naming z t (narrowed_by (records t) at (take n input) fits) (run text (take n input)) (at + length (take n input)) (left - n)
    → Absorbs (turn t) (on (Shaking (Naming z fits text at left)) m) input n (on x m)
name_leaf z t m fits text at {input} {left} {n} some least e =
    fold_leaf (stands z t) (sees t) (each_seen z t m) (record { fits = fits; text = text; at = at }) (naming_more z t fits text at left (λ w. omega arith)) least some
    (e ∙ ap (λ (v : Seen). stands z t v (left - n)) (sym (seen t (take n input) fits text at)))
