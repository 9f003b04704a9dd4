use Rattle.std.proofs.Common.{sym}
use Rattle.ts_series.proofs.RangeLemmas.{found_later, missed_later}
use Rattle.ts_clip.proofs.chain_cells.up_to.Goals as goal

pub returns-in-Ok-clause-back : goal.returns-in-Ok-clause-back
returns-in-Ok-clause-back c = λ es order count same. found_later c.args.to es c.in-Ok.index order.rising (sym (c.in-Ok.ensures.ok es order count same))

pub returns-in-Err-clause-back : goal.returns-in-Err-clause-back
returns-in-Err-clause-back c = λ es order count same. missed_later c.args.to es c.in-Err.index order.rising (sym (c.in-Err.ensures.ok es order count same))
