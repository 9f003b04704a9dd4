use Rattle.ts_running.proofs.OperandLemmas.{product_small}
use Rattle.ts_running.proofs.value.short_product.Goals as goal

pub returns-clause-small : goal.returns-clause-small
returns-clause-small c = product_small c.args.a c.args.b c.ranges.a c.ranges.b
