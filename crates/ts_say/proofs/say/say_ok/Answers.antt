use Rattle.ts_answer.specs.Reply.{ok_line}
use Rattle.ts_say.proofs.say.say_ok.Goals as goal

pub returns-clause-ok : goal.returns-clause-ok
unfolding ok_line
returns-clause-ok c = c.extend_from_slice.ensures.ok
