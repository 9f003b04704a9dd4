-- Each step goes on with one column less.
use Rattle.std.proofs.Common.{length}
use Rattle.ts_row.proofs.literal.+read_values.Given as goal

abbrev pub decreases-read_values : goal.decreases-read_values
decreases-read_values l = length l.columns.now
