-- The two replies are written one behind the other.
use Rattle.wire.specs.Layouts.{option_reply, option_reply_head}
use Rattle.wire.specs.Fields.{be}
use Rattle.server.specs.Session.{list_replies}
use Rattle.server.proofs.options.list_replies.Goals as goal

pub returns : goal.returns
unfolding be option_reply option_reply_head list_replies
returns c = rw (c.copy_part-3.ensures, c.copy_part-2.ensures, c.write.ensures, c.copy_part.ensures, c.option_reply-ack.ensures, c.option_reply-server.ensures)
