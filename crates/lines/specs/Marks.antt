-- What decides the end of a line.
--   unchanged   whether every byte of a room is still AA
--   refusal     whether an answer is a refusal, which leaves what was lent as it was
use Rattle.std.specs.Prelude.{ℕ, Bool, true, false, List, ◌==◌}
use Rattle.std.specs.List.{list_all}
use Rattle.lines.specs.declared.answer.Answer.{Answer}
use Rattle.lines.specs.declared.answer.Answer.TheVariants.{On, Done, Fail, End, No}

abbrev pub unchanged : List ℕ → Bool
unchanged = list_all (λ b. b == 170)

abbrev pub refusal : Answer → Bool
refusal On = false
refusal (Done n) = false
refusal (Fail n) = false
refusal (End n) = false
refusal (No n) = true
