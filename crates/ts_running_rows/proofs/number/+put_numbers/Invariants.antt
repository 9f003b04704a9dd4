-- The columns are those that are left.
use Rattle.std.proofs.Common.{length}
use Rattle.ts_running_rows.proofs.number.+put_numbers.Given as goal

abbrev pub decreases-put_numbers : goal.decreases-put_numbers
decreases-put_numbers l = length l.columns.now
