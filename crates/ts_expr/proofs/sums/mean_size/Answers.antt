use Rattle.ts_expr.proofs.SumsLemmas.{by_parts}
use Rattle.ts_expr.proofs.sums.mean_size.Goals as goal

pub returns-clause-value : goal.returns-clause-value
returns-clause-value c = by_parts c.args.size c.args.count c.requires.some
