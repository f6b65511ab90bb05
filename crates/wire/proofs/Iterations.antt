-- The walk over a table's records, a step at a time.
--   behind_version   a table without its first byte
--   some_front, none_front   what the code's answer says of the bytes' front
--   passed_all       past the last record there is none
use Rattle.std.specs.Prelude.{◌≡◌, ℕ, zero, suc, ◌+◌, ◌-◌, ◌≤◌, ◌<◌, List, [], ◌∷◌, length, get_or, drop, ◌⊎◌, MatchOption, Option, None, Some, Result, Ok, Err, slice_range, unwrap_or}
use Rattle.std.specs.Borrow.{Bor}
use Rattle.std.specs.Option.{option_flatten}
use Rattle.std.specs.Result.{result_ok}
use Rattle.std.specs.Iterator.{Yields, YieldsFirstBy}
use mathlib.Core.Path.{sym, ap, ◌∙◌}
use mathlib.Core.Logic.{inl, inr}
use native.Mathlib.Omega.{arith}
use lib.Seq.{take_all}
use Rattle.wire.specs.Table.{Record, no_record, nothing, broken, entry, front}
use Rattle.wire.specs.Walk.{seen, front_of, due}
use Rattle.wire.specs.declared.records.Entry.{Entry}
use Rattle.wire.specs.declared.records.Broken.{Broken}
use Rattle.wire.specs.declared.records.Records.{Records}

pub behind_version : (t : List ℕ) (o : Option (Bor (List ℕ))) (e : Bor (List ℕ)) → e.now ≡ []
    → MatchOption o ((length t < 1) ⊎ (length t < length t))
    (λ p. (1 ≤ length t) × (length t ≤ length t) × (p.now ≡ slice_range t 1 (length t)) × (length p.now + 1 ≡ length t))
    → (unwrap_or o e).now ≡ drop 1 t
behind_version [] None e n g = n
behind_version (b ∷ t) None e n (inl g) = absurd (omega arith)
behind_version (b ∷ t) None e n (inr g) = absurd (omega arith)
behind_version [] (Some p) e n g = absurd (omega (arith, g.0))
behind_version (b ∷ t) (Some p) e n g = g.2 ∙ take_all (length (b ∷ t) - 1) t (omega arith)

pub some_front : (f : Result (Option (Entry × Bor (List ℕ))) Broken) (found : Entry × Bor (List ℕ)) (l : List ℕ)
    → front_of f ≡ front l → option_flatten (result_ok f) ≡ Some found → front l ≡ entry (seen found.0) found.1.now
some_front (Ok None) found l e q = absurd (let z : ◌≡◌ {A = ℕ} 0 1 = cc in omega arith)
some_front (Ok (Some p)) found l e q = sym e ∙ ap (λ (f : Option (Entry × Bor (List ℕ))). front_of (Ok f)) q
some_front (Err b) found l e q = absurd (let z : ◌≡◌ {A = ℕ} 0 1 = cc in omega arith)

pub none_front : (f : Result (Option (Entry × Bor (List ℕ))) Broken) (l : List ℕ)
    → front_of f ≡ front l → option_flatten (result_ok f) ≡ None → (front l ≡ nothing) ⊎ (front l ≡ broken)
none_front (Ok None) l e q = inl (sym e)
none_front (Ok (Some p)) l e q = absurd (let z : ◌≡◌ {A = ℕ} 0 1 = cc in omega arith)
none_front (Err b) l e q = inr (sym e)

pub passed_all : (xs : List Entry) (s t : Records) (k : ℕ) → Yields (YieldsFirstBy seen due) s xs t → due t ≡ [] → length xs ≤ k
    → get_or (due s) k no_record ≡ no_record
passed_all [] s t k y e h = ap (λ (w : Records). get_or (due w) k no_record) y ∙ rw e
passed_all (x ∷ xs) s t zero y e h = absurd (omega arith)
passed_all (x ∷ xs) s t (suc k) y e h = ap (λ (rs : List Record). get_or rs (suc k) no_record) y.1 ∙ passed_all xs y.0 t k y.2 e (omega arith)
