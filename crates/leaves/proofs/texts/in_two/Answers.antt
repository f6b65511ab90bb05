-- A text in two parts is run as it is in one.
use lib.ListN.{take, drop, take-append-drop}
use Rattle.wire.proofs.Utf8Laws.{run_append}
use Rattle.wire.specs.declared.utf8.Utf8.TheVariants.{Start}
use Rattle.leaves.proofs.texts.in_two.Goals as goal

pub returns : goal.returns
returns c =
    let v = c.args.v.now in
    let k = c.args.k in
    rw (c.run-2.ensures, c.run.ensures, c.new.ensures, c.split_at.ensures.front, c.split_at.ensures.back, ← run_append Start (take k v) (drop k v), take-append-drop k v)
