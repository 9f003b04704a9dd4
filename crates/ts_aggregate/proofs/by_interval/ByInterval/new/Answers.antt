use Rattle.ts_aggregate.proofs.StepLemmas.{stands_none}
use Rattle.ts_aggregate.proofs.by_interval.ByInterval.new.Goals as goal

pub returns-clause-stands : goal.returns-clause-stands
returns-clause-stands g c = λ empty.
    stands_none c.args.wanted.now c.first-reached.result.span c.args.folding.now c.first-reached.ensures.none
    c.first-reached.ensures.going empty
