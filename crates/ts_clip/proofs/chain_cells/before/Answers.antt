use Rattle.std.proofs.Common.{sym}
use Rattle.ts_series.proofs.RangeLemmas.{found_earlier, missed_earlier}
use Rattle.ts_clip.proofs.chain_cells.before.Goals as goal

pub returns-in-Ok-clause-front : goal.returns-in-Ok-clause-front
returns-in-Ok-clause-front c = λ es order count same. found_earlier c.args.from es c.in-Ok.index order.rising (sym (c.in-Ok.ensures.ok es order count same))

pub returns-in-Err-clause-front : goal.returns-in-Err-clause-front
returns-in-Err-clause-front c = λ es order count same. missed_earlier c.args.from es c.in-Err.index order.rising (sym (c.in-Err.ensures.ok es order count same))
