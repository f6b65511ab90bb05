-- Each reply is computed anew in front of its array.
use mathlib.Core.Path.{refl, sym}
use Rattle.server.proofs.Session.{length_list}
use Rattle.server.proofs.Owing.{option_owed, exported_owed}
use Rattle.server.proofs.handshake.owed.Goals as goal

pub returns-in-Listing : goal.returns-in-Listing
returns-in-Listing c = λ h. rw c.in-Listing.is (record { all = sym length_list; front = c.list_replies.ensures; still = refl })

pub returns-in-Declining : goal.returns-in-Declining
returns-in-Declining c = λ h. rw c.in-Declining.is (option_owed _ _ _ c.option_reply.ensures)

pub returns-in-Aborting : goal.returns-in-Aborting
returns-in-Aborting c = λ h. rw c.in-Aborting.is (option_owed _ _ _ c.option_reply-in-Aborting.ensures)

pub returns-in-Exporting : goal.returns-in-Exporting
returns-in-Exporting c = λ h. rw c.in-Exporting.is (exported_owed _ c.in-Exporting.x.export _ c.reply_length.ensures c.export_reply.ensures)
