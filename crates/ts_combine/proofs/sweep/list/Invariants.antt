-- The rows at the starts so far are there.
use Rattle.ts_combine.proofs.ListingLemmas.{AreListed}
use Rattle.ts_combine.proofs.sweep.list.Given as goal

abbrev pub invariant-loop-n : goal.invariant-loop-n
invariant-loop-n l = AreListed l.initial.rows l.rows l.line.calendar.now l.from l.first l.second l.n
