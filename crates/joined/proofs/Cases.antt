-- 01's cases hold, all of them: what the definitions give is what 01 says.
use mathlib.Core.Path.{◌≡◌, refl}
use mathlib.Core.Bool.{true}
use Rattle.wire.specs.Fields.{be, number, same_bytes}
use Rattle.wire.specs.Layouts.{greeting, option_request, option_reply, option_reply_head, request, simple_reply}
use Rattle.wire.specs.Table.{wire_flags}
use Rattle.wire.specs.Numbers.{added}
use Rattle.server.specs.Request.{owed}
use Rattle.server.specs.Session.{judge_flags, judge_option, payload, answered, list_replies, requested}
use Rattle.client.specs.Session.{hello, judge_magic, judge_style}
use Rattle.wire.specs.Cases.{same}
use Rattle.joined.specs.Cases.{cases}

pub all_cases : same cases ≡ true
unfolding be number same_bytes greeting option_request option_reply option_reply_head request simple_reply wire_flags added owed judge_flags judge_option payload answered list_replies requested hello judge_magic judge_style
all_cases = refl
