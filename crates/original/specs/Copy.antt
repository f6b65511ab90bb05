-- `mycopy` of document 000: from a reader to a writer, in parts of at most 65,536 bytes, until `limit` bytes are copied or the reader has no more.
--   Written        what `write_all` comes to: all was written, or what fits
--   Copied, copied   what is left of the reader, the writer, and how many bytes were copied; none where a write failed
--   buf            the length of the buffer
--   wrote, part    a turn of the loop, behind its write; behind its read
--   turns          the loop
--   mycopy         the copy; `first` is done before the first write
--   Cursor, write_all   a device of a fixed size with a position, and `write_all` on it: as much as fits
--   fitting, put   of the bytes those that fit; the device with bytes at its position, which moves behind them
use Rattle.std.specs.Prelude.{ℕ, zero, suc, min, ◌+◌, ◌-◌, List, [], ◌∷◌, ◌++◌, eqb, ltb, length, take, drop, Option, None, Some}
use Rattle.machine.specs.Choice.{pick}

pub data Written (D : Type 0) : Type 0 where
  all : D → Written D
  full : D → Written D

pub record Copied (D : Type 0) : Type 0 where
  pub from : List ℕ
  pub to : D
  pub count : Option ℕ

abbrev pub copied : {D : Type 0} → List ℕ → D → Option ℕ → Copied D
copied from to count = record { from = from; to = to; count = count }

-- the length of `buf`
abbrev pub buf : ℕ
buf = 65536

module _ {D : Type 0} (write : D → List ℕ → Written D) where
  -- after a write: `limit` bytes are still to be copied
  abbrev pub wrote : List ℕ → ℕ → ℕ → Written D → (D → Copied D) → Copied D
  wrote from limit count (full to) more = copied from to None
  wrote from limit count (all to) more = pick (eqb limit 0) (copied from to (Some count)) (more to)

  -- after a read: the bytes that it gave, and what is left of the reader
  abbrev pub part : (D → D) → List ℕ → List ℕ → D → ℕ → ℕ → (List ℕ → D → ℕ → ℕ → Copied D) → Copied D
  part first [] from to limit count more = copied from to (Some count)
  part first (b ∷ bytes) from to limit count more =
      wrote from (limit - suc (length bytes)) (count + suc (length bytes)) (write (first to) (b ∷ bytes))
      (λ next. more from next (limit - suc (length bytes)) (count + suc (length bytes)))

  -- the loop, which turns at most `limit` times, for each turn that goes on has copied a byte or more; with nothing to copy a read gives nothing, and it ends
  unfoldable pub turns : ℕ → (D → D) → List ℕ → D → ℕ → ℕ → Copied D
  turns zero first from to limit count = copied from to (Some count)
  turns (suc k) first from to limit count =
      part first (take (min buf limit) from) (drop (min buf limit) from) to limit count (turns k (λ same. same))

  abbrev pub mycopy : (D → D) → List ℕ → D → ℕ → Copied D
  mycopy first from to limit = turns limit first from to limit 0

pub record Cursor : Type 0 where
  pub bytes : List ℕ
  pub position : ℕ

-- what fits, from the position on
abbrev pub fitting : Cursor → List ℕ → List ℕ
fitting c bytes = take (length c.bytes - c.position) bytes

abbrev pub put : Cursor → List ℕ → Cursor
put c bytes = record {
  bytes = take c.position c.bytes ++ bytes ++ drop (c.position + length bytes) c.bytes;
  position = c.position + length bytes;
}

unfoldable pub write_all : Cursor → List ℕ → Written Cursor
write_all c bytes =
    pick (ltb (length (fitting c bytes)) (length bytes)) (full (put c (fitting c bytes))) (all (put c (fitting c bytes)))
