-- What a talk decides. If the two machines can talk from one place to another where neither owes a byte, then over wires that hold at
-- least a byte, whatever the order of the moves, the pieces and the rooms:
--   talk_midway    at every moment each has said and heard a first part of its side of the talk
--   talk_bounded   no more bytes are moved than twice those of the talk: each onto a wire and off it
--   talk_goes_on   what has not come to the end can move
--   talk_outcome   where nothing can move, all of the talk is said, and nothing else
--   talk_closed    where the client rests, too, if no byte taken leads the server to its end
--   talk_fair      a fair host comes to the end, after no more rounds than that
use Prim.Native.Nat.{ℕ, ◌+◌, ◌*◌, ◌≤◌, ◌<◌}
use mathlib.Core.Path.{◌≡◌, refl, sym, ap, ◌∙◌}
use mathlib.Core.Logic.{◌⊎◌}
use mathlib.Core.Bool.{false}
use mathlib.Core.List.{List, []}
use native.Mathlib.Omega.{arith}
use lib.ListN.{length}
use Rattle.machine.specs.Machine.{Turn, rests, owes}
use Rattle.machine.specs.Traffic.{Traffic, talk_bytes, append, total}
use Rattle.machine.specs.Wires.{Sys, sys, the_client, Who, Move, Exec, Stuck, Midway, Talk, Fresh}
use Rattle.machine.specs.Rounds.{Rounds}
use Rattle.machine.proofs.Traffic.{append_none, total_append, total_talk}
use Rattle.machine.proofs.Confluence.{rejoin, progress, one_outcome}
use Rattle.machine.proofs.Talking.{talk_exec, stuck, closed}
use Rattle.machine.proofs.Sides.{midway}
use Rattle.machine.proofs.Fair.{fair}

module _ {C S : Type 0} {turnC : C → Turn C} {turnS : S → Turn S} {cu cd : ℕ} (hu : 0 < cu) (hd : 0 < cd) {us ds : List ℕ} {c c' : C} {s s' : S}
    (talk : Talk turnC turnS us ds c s c' s') (c-owes : owes (turnC c') ≡ false) (s-owes : owes (turnS s') ≡ false) where
  abbrev start : Sys C S
  start = sys c s [] []

  abbrev end : Sys C S
  end = sys c' s' [] []

  way : Exec turnC turnS cu cd (talk_bytes us ds) start end
  way = talk_exec hu hd talk

  at_rest : Stuck turnC turnS cu cd end
  at_rest = stuck c-owes s-owes

  pub talk_midway : {b : Traffic} {y : Sys C S} → Exec turnC turnS cu cd b start y → Midway turnC turnS cu cd (talk_bytes us ds) start b y end
  talk_midway e = midway way at_rest e

  pub talk_bounded : {b : Traffic} {y : Sys C S} → Exec turnC turnS cu cd b start y → total b ≤ 2 * (length us + length ds)
  talk_bounded {b} e =
      let r = rejoin way at_rest e in
      let n = ap total r.1 ∙ total_append b r.0 in
      omega (arith, total_talk us ds)

  pub talk_goes_on : {b : Traffic} {y : Sys C S} → Exec turnC turnS cu cd b start y
      → (y ≡ end) ⊎ ((w : Who) × (a : Traffic) × (z : Sys C S) × Move turnC turnS cu cd w a y z)
  talk_goes_on e = progress (rejoin way at_rest e).2

  pub talk_outcome : {b : Traffic} {y : Sys C S} → Exec turnC turnS cu cd b start y → Stuck turnC turnS cu cd y → (y ≡ end) × (b ≡ talk_bytes us ds)
  talk_outcome e h = one_outcome way at_rest e h

  pub talk_closed : {b : Traffic} {y : Sys C S} → Fresh turnS s' → Exec turnC turnS cu cd b start y → turnC (the_client y) ≡ rests
      → (y ≡ end) × (b ≡ talk_bytes us ds)
  talk_closed {b} f e r =
      let j = rejoin way at_rest e in
      let z = closed j.2 r refl f in
      (z.0, sym (j.1 ∙ ap (append b) z.1 ∙ append_none b))

  pub talk_fair : {k : ℕ} {y : Sys C S} → 2 * (length us + length ds) ≤ k → Rounds turnC turnS cu cd k start y → y ≡ end
  talk_fair h r = fair way at_rest (omega (arith, total_talk us ds)) r
