-- Where a text stands, by a letter: w where it is whole, c where it is cut inside a character, b where no text begins so.
--   standing s   the letter of the state s
use Rattle.std.specs.Prelude.{ℕ}
use Rattle.wire.specs.declared.utf8.Utf8.{Utf8}
use Rattle.wire.specs.declared.utf8.Utf8.TheVariants.{Start, Tail1, Tail2, Tail3, AfterE0, AfterED, AfterF0, AfterF4, Bad}

abbrev pub standing : Utf8 → ℕ
standing Start = 0x77
standing Tail1 = 0x63
standing Tail2 = 0x63
standing Tail3 = 0x63
standing AfterE0 = 0x63
standing AfterED = 0x63
standing AfterF0 = 0x63
standing AfterF4 = 0x63
standing Bad = 0x62
