-- Each word has a byte, so the bytes that are left become fewer.
use Rattle.std.proofs.Common.{length}
use Rattle.mktable.proofs.flags.in_words.Given as goal

abbrev pub decreases-loop-rest : goal.decreases-loop-rest
decreases-loop-rest l = length l.rest
