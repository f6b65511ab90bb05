-- The header is as long as the front of a room that has space for it.
use mathlib.Core.Path.{◌≡◌, sym, ◌∙◌}
use borrow.Author.Rules.{rules}
use borrow.Author.Tests.{le-ltb}
use lib.ListN.{length}
use lib.Seq.{length-take-le}
use Rattle.server.proofs.oldstyle.oldstyle_header.Goals as goal

pub copy_from_slice-requires : goal.copy_from_slice-requires
copy_from_slice-requires c =
    let l : length c.header-bytes.result ≡ 152 = search rules in
    length-take-le 152 c.args.room.now c.if-room-lt152.false ∙ sym l

pub returns : goal.returns
returns c =
    let enough = le-ltb _ _ c.if-room-lt152.false in
    record { number = rw enough; written = rw (enough, c.copy_from_slice.ensures.after, c.header-bytes.ensures) }
