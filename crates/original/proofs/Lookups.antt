-- The callback finds the first record of a name, as the machine's lookup does.
--   lookup_some   the record that it finds
--   lookup_none   it finds none where there is none
use Prim.Native.Nat.{ℕ, zero, suc, ◌<◌}
use mathlib.Core.Path.{◌≡◌, refl}
use mathlib.Core.Bool.{Bool, true, false}
use mathlib.Core.List.{List, [], ◌∷◌}
use Rattle.std.specs.Prelude.{None, Some}
use native.Mathlib.Omega.{arith}
use lib.ListN.{get_or}
use Rattle.machine.specs.Choice.{pick}
use Rattle.wire.specs.Fields.{same_bytes}
use Rattle.wire.specs.Table.{Record, no_record, export_of}
use Rattle.wire.specs.Found.{Named, First}
use Rattle.wire.specs.declared.table.Export.{Export}
use Rattle.wire.proofs.BigEndian.{same_bytes_eq, same_bytes_refl}
use Rattle.original.specs.Handshake.{lookup}

-- the first record has another name
not_first : (r : Record) (rs : List Record) (name : List ℕ) → same_bytes r.name name ≡ false → Named (r ∷ rs) 0 name → ⊥
not_first r rs name e n =
    let s : same_bytes r.name name ≡ true = rw n.named (same_bytes_refl name) in
    let z : ◌≡◌ {A = ℕ} 0 1 = cc in omega arith

behind : {r : Record} {rs : List Record} {name : List ℕ} {k : ℕ} → Named (r ∷ rs) (suc k) name → Named rs k name
behind n = let l = n.listed in record { listed = omega arith; named = n.named }

pub lookup_some : (rs : List Record) (name : List ℕ) (e : Export) → lookup rs name ≡ Some e → (k : ℕ) × First rs name k × (export_of (get_or rs k no_record) ≡ e)
lookup_some [] name e h = absurd (let z : ◌≡◌ {A = ℕ} 0 1 = cc in omega arith)
lookup_some (r ∷ rs) name e h = go (same_bytes r.name name) refl h (lookup_some rs name e)
  where
    go : (b : Bool) → same_bytes r.name name ≡ b → pick b (Some (export_of r)) (lookup rs name) ≡ Some e
        → (lookup rs name ≡ Some e → (k : ℕ) × First rs name k × (export_of (get_or rs k no_record) ≡ e))
        → (k : ℕ) × First (r ∷ rs) name k × (export_of (get_or (r ∷ rs) k no_record) ≡ e)
    go true q h more = (0, record { fits = record { listed = omega arith; named = same_bytes_eq r.name name q }; before = λ j l. absurd (omega arith) }, cc)
    go false q h more =
        let w = more h in
        let l = w.1.fits.listed in
        (suc w.0, record { fits = record { listed = omega arith; named = w.1.fits.named }; before = before q w.0 w.1.before }, w.2)
      where
        before : same_bytes r.name name ≡ false → (k : ℕ) → ((j : ℕ) → j < k → Named rs j name → ⊥) → (j : ℕ) → j < suc k → Named (r ∷ rs) j name → ⊥
        before q k more zero h n = not_first r rs name q n
        before q k more (suc j) h n = more j (omega arith) (behind n)

pub lookup_none : (rs : List Record) (name : List ℕ) → lookup rs name ≡ None → (k : ℕ) → Named rs k name → ⊥
lookup_none [] name h k n = let l = n.listed in omega arith
lookup_none (r ∷ rs) name h k n = go (same_bytes r.name name) refl h (lookup_none rs name) k n
  where
    go : (b : Bool) → same_bytes r.name name ≡ b → pick b (Some (export_of r)) (lookup rs name) ≡ None
        → (lookup rs name ≡ None → (k : ℕ) → Named rs k name → ⊥) → (k : ℕ) → Named (r ∷ rs) k name → ⊥
    go true q h more k n = let z : ◌≡◌ {A = ℕ} 0 1 = cc in omega arith
    go false q h more zero n = not_first r rs name q n
    go false q h more (suc k) n = more h k (behind n)
