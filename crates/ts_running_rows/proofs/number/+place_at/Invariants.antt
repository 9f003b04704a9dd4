-- The columns are those that are left.
use Rattle.std.proofs.Common.{length}
use Rattle.ts_running_rows.proofs.number.+place_at.Given as goal

abbrev pub decreases-place_at : goal.decreases-place_at
decreases-place_at l = length l.columns.now
