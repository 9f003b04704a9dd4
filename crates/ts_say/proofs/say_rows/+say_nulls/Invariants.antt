-- The columns are those that are left.
use Rattle.std.proofs.Common.{length}
use Rattle.ts_say.proofs.say_rows.+say_nulls.Given as goal

abbrev pub decreases-say_nulls : goal.decreases-say_nulls
decreases-say_nulls l = length l.columns.now
