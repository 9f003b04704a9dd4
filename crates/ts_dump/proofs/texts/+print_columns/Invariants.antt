-- Fewer columns are left.
use Rattle.std.proofs.Common.{length}
use Rattle.ts_dump.proofs.texts.+print_columns.Given as goal

abbrev pub decreases-print_columns : goal.decreases-print_columns
decreases-print_columns l = length l.columns.now
