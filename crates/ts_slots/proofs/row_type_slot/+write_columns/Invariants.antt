-- Each step goes on with one column less.
use Rattle.std.proofs.Common.{length}
use Rattle.ts_slots.proofs.row_type_slot.+write_columns.Given as goal

abbrev pub decreases-write_columns : goal.decreases-write_columns
decreases-write_columns l = length l.columns.now
