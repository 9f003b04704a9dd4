-- Each step goes on with one column less.
use Rattle.std.proofs.Common.{length}
use Rattle.ts_row.proofs.print.+print_values.Given as goal

abbrev pub decreases-print_values : goal.decreases-print_values
decreases-print_values l = length l.columns.now
