-- One machine read as a part of another, as a client is of a client with calls to make.
--   through   the same turn, with its places read by f
--   Follows   wherever the first does not rest, the second does what the first does
use Rattle.std.specs.Prelude.{◌≡◌}
use Rattle.machine.specs.Machine.{Turn, gives, takes, rests}

module _ {X Y : Type 0} where
  abbrev pub through : (X → Y) → Turn X → Turn Y
  through f (gives b x) = gives b (f x)
  through f (takes k) = takes (λ b. f (k b))
  through f rests = rests

  abbrev pub Follows : (X → Turn X) → (Y → Turn Y) → (X → Y) → Type 0
  Follows turn turn' f = (x : X) → (turn x ≡ rests → ⊥) → turn' (f x) ≡ through f (turn x)
