-- UTF-8 as an automaton on single bytes, by 01's list of leads and tails.
--   lead b      the state after the first byte of a character
--   next s b    the state after one byte more
--   run s bs    the state after these bytes
--   whole s     whether a text may end here: it is not cut inside a character, and nothing was bad
--   valid bs    whether these bytes are a text, from its first byte to its last
-- Grammar.antt has RFC 3629's own grammar on whole lists; that the two accept the same is `accepts` of proofs/Utf8Laws.antt.
use Rattle.std.specs.Prelude.{ℕ, Bool, true, false, List, [], ◌∷◌}
use Rattle.machine.specs.Choice.{pick, between}
use Rattle.wire.specs.declared.utf8.Utf8.{Utf8}
use Rattle.wire.specs.declared.utf8.Utf8.TheVariants.{Start, Tail1, Tail2, Tail3, AfterE0, AfterED, AfterF0, AfterF4, Bad}

-- "Lead C2..DF, then one tail byte; E0 then A0..BF; ED then 80..9F; other E1..EF; F0 then 90..BF; F1..F3; F4 then 80..8F"
unfoldable pub lead : ℕ → Utf8
lead b =
    pick (between 0x00 0x7F b) Start
    (pick (between 0xC2 0xDF b) Tail1
    (pick (between 0xE0 0xE0 b) AfterE0
    (pick (between 0xED 0xED b) AfterED
    (pick (between 0xE1 0xEF b) Tail2
    (pick (between 0xF0 0xF0 b) AfterF0
    (pick (between 0xF1 0xF3 b) Tail3
    (pick (between 0xF4 0xF4 b) AfterF4 Bad)))))))

unfoldable pub next : Utf8 → ℕ → Utf8
unfolding lead
next Start b = lead b
next Tail1 b = pick (between 0x80 0xBF b) Start Bad
next Tail2 b = pick (between 0x80 0xBF b) Tail1 Bad
next Tail3 b = pick (between 0x80 0xBF b) Tail2 Bad
next AfterE0 b = pick (between 0xA0 0xBF b) Tail1 Bad
next AfterED b = pick (between 0x80 0x9F b) Tail1 Bad
next AfterF0 b = pick (between 0x90 0xBF b) Tail2 Bad
next AfterF4 b = pick (between 0x80 0x8F b) Tail2 Bad
next Bad b = Bad

abbrev pub run : Utf8 → List ℕ → Utf8
run s [] = s
run s (b ∷ bs) = run (next s b) bs

abbrev pub whole : Utf8 → Bool
whole Start = true
whole Tail1 = false
whole Tail2 = false
whole Tail3 = false
whole AfterE0 = false
whole AfterED = false
whole AfterF0 = false
whole AfterF4 = false
whole Bad = false

-- a text, from its first byte to its last
abbrev pub valid : List ℕ → Bool
valid bs = whole (run Start bs)
