-- What a lookup has to find, said without a set.
--   name_of rs k           the name of record k
--   Named rs k name       record k is there, and that is its name
--   First rs name k       record k is the first of that name
--   Step, narrowed_under   name bytes, each under the table that is lent in its step
--   Long rs k len         record k is there, and its name is that long
--   HasByte rs k i b      record k is there, and its name is longer than the place i and has the byte b there
--   Stays i steps k       every name byte, from the place i on, found record k in its table, longer than the byte's place and with that byte there
use Rattle.std.specs.Prelude.{ℕ, suc, ◌<◌, ◌≡◌, Bool, List, [], ◌∷◌, length, get_or}
use Rattle.wire.specs.Table.{Record, no_record}
use Rattle.wire.specs.Lookup.{narrowed}

abbrev pub name_of : List Record → ℕ → List ℕ
name_of rs k = (get_or rs k no_record).name

-- ---- one table
pub record Named (rs : List Record) (k : ℕ) (name : List ℕ) : Type 0 where
  pub listed : k < length rs
  pub named : name_of rs k ≡ name

pub record First (rs : List Record) (name : List ℕ) (k : ℕ) : Type 0 where
  pub fits : Named rs k name
  pub before : (j : ℕ) → j < k → Named rs j name → ⊥

-- ---- a table for each name byte
pub record Step : Type 0 where
  pub table : List Record
  pub byte : ℕ

abbrev pub narrowed_under : ℕ → List Step → List Bool → List Bool
narrowed_under i [] set = set
narrowed_under i (s ∷ ss) set = narrowed_under (suc i) ss (narrowed s.table i s.byte set)

pub record Long (rs : List Record) (k len : ℕ) : Type 0 where
  pub listed : k < length rs
  pub long : length (name_of rs k) ≡ len

pub record HasByte (rs : List Record) (k i b : ℕ) : Type 0 where
  pub listed : k < length rs
  pub longer : i < length (name_of rs k)
  pub byte : get_or (name_of rs k) i 0 ≡ b

-- the place in the name of the first step is i
abbrev pub Stays : ℕ → List Step → ℕ → Type 0
Stays i [] k = Unit {0}
Stays i (s ∷ ss) k = HasByte s.table k i s.byte × Stays (suc i) ss k
