-- Each step goes on with one column less.
use Rattle.std.proofs.Common.{length}
use Rattle.ts_row.proofs.judging.+are_values.Given as goal

abbrev pub decreases-are_values : goal.decreases-are_values
decreases-are_values l = length l.columns.now
