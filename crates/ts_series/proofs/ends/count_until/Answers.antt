use Rattle.std.proofs.Common.{sym, ◌∙◌}
use Rattle.ts_series.proofs.RangeLemmas.{found_later, missed_later}
use Rattle.ts_series.proofs.ends.count_until.Goals as goal

pub returns-in-Ok-clause-back : goal.returns-in-Ok-clause-back
returns-in-Ok-clause-back c = λ es order count same. found_later c.args.to es _ order.rising (sym (c.search.ensures.ok es order count same) ∙ c.in-Ok.is)

pub returns-in-Err-clause-back : goal.returns-in-Err-clause-back
returns-in-Err-clause-back c = λ es order count same. missed_later c.args.to es _ order.rising (sym (c.search.ensures.ok es order count same) ∙ c.in-Err.is)
