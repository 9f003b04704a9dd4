use Rattle.std.proofs.Common.{rules}
use Rattle.ts_running.proofs.ScaleLemmas.{scales_small}
use Rattle.ts_running.proofs.bind.BoundExpr.scales.Goals as goal

pub returns-clause-most : goal.returns-clause-most
returns-clause-most c = scales_small c.args.self.now c.as_slice.result.now (search rules)
