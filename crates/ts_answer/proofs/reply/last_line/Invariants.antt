use Rattle.std.proofs.Common.{◌≡◌, length}
use Rattle.ts_answer.specs.Outcomes.{last_line, last_line_from}
use Rattle.ts_answer.proofs.reply.last_line.Given as goal

abbrev pub invariant-loop-rest : goal.invariant-loop-rest
invariant-loop-rest l = last_line_from l.line l.rest ≡ last_line l.text

abbrev pub decreases-loop-rest : goal.decreases-loop-rest
decreases-loop-rest l = length l.rest
