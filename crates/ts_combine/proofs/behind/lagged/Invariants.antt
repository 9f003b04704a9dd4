-- Of the elements so far those that move were gathered.
use Rattle.ts_combine.proofs.LaggedLemmas.{IsLagging}
use Rattle.ts_combine.proofs.behind.lagged.Given as goal

abbrev pub invariant-loop-index : goal.invariant-loop-index
invariant-loop-index l = IsLagging l.grid l.by l.last l.elems l.rows l.index
