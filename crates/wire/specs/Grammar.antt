-- RFC 3629, section 4: the syntax of UTF-8 byte sequences, on whole lists.
--   In lo hi b, Tail b   b is one of the bytes lo to hi; b is a tail byte (UTF8-tail)
--   Char l               l is one character (UTF8-char)
--   Octets l             l is a text (UTF8-octets)
use Rattle.std.specs.Prelude.{ℕ, ◌≤◌, List, [], ◌∷◌, ◌++◌}

abbrev pub In : ℕ → ℕ → ℕ → Type 0
In lo hi b = (lo ≤ b) × (b ≤ hi)

-- UTF8-tail
abbrev pub Tail : ℕ → Type 0
Tail = In 0x80 0xBF

pub data Char : List ℕ → Type 0 where
  -- UTF8-1
  one : {a : ℕ} → In 0x00 0x7F a → Char (a ∷ [])
  -- UTF8-2
  two : {a b : ℕ} → In 0xC2 0xDF a → Tail b → Char (a ∷ b ∷ [])
  -- UTF8-3
  three_E0 : {a b c : ℕ} → In 0xE0 0xE0 a → In 0xA0 0xBF b → Tail c → Char (a ∷ b ∷ c ∷ [])
  three_E1 : {a b c : ℕ} → In 0xE1 0xEC a → Tail b → Tail c → Char (a ∷ b ∷ c ∷ [])
  three_ED : {a b c : ℕ} → In 0xED 0xED a → In 0x80 0x9F b → Tail c → Char (a ∷ b ∷ c ∷ [])
  three_EE : {a b c : ℕ} → In 0xEE 0xEF a → Tail b → Tail c → Char (a ∷ b ∷ c ∷ [])
  -- UTF8-4
  four_F0 : {a b c d : ℕ} → In 0xF0 0xF0 a → In 0x90 0xBF b → Tail c → Tail d → Char (a ∷ b ∷ c ∷ d ∷ [])
  four_F1 : {a b c d : ℕ} → In 0xF1 0xF3 a → Tail b → Tail c → Tail d → Char (a ∷ b ∷ c ∷ d ∷ [])
  four_F4 : {a b c d : ℕ} → In 0xF4 0xF4 a → In 0x80 0x8F b → Tail c → Tail d → Char (a ∷ b ∷ c ∷ d ∷ [])

pub data Octets : List ℕ → Type 0 where
  none : Octets []
  char : {c l : List ℕ} → Char c → Octets l → Octets (c ++ l)
