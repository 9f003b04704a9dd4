use Rattle.ts_aggregate.proofs.FoldingLemmas.{none_known}
use Rattle.ts_aggregate.proofs.folding.Folding.new.Goals as goal

pub invariant_of-result : goal.invariant_of-result
invariant_of-result c = none_known c.args.bound.now.items _ c.in_ok-tallies.ensures
