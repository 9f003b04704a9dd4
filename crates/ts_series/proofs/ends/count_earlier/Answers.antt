use Rattle.std.proofs.Common.{sym, ◌∙◌}
use Rattle.ts_series.proofs.RangeLemmas.{found_earlier, missed_earlier}
use Rattle.ts_series.proofs.ends.count_earlier.Goals as goal

pub returns-in-Ok-clause-front : goal.returns-in-Ok-clause-front
returns-in-Ok-clause-front c = λ es order count same. found_earlier c.args.from es _ order.rising (sym (c.search.ensures.ok es order count same) ∙ c.in-Ok.is)

pub returns-in-Err-clause-front : goal.returns-in-Err-clause-front
returns-in-Err-clause-front c = λ es order count same. missed_earlier c.args.from es _ order.rising (sym (c.search.ensures.ok es order count same) ∙ c.in-Err.is)
