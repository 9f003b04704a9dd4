use Rattle.ts_clip.proofs.ChainRangeLemmas.{within_between}
use Rattle.ts_clip.proofs.chain_cells.range_on.Goals as goal

pub returns-clause-range : goal.returns-clause-range
returns-clause-range c = λ es order count same.
    within_between c.args.from c.args.to es c.before-first.result c.up_to-last.result order.rising (c.before-first.ensures.front es order count same) (c.up_to-last.ensures.back es order count same)
