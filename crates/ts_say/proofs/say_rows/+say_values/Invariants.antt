-- The columns are those that are left.
use Rattle.std.proofs.Common.{length}
use Rattle.ts_say.proofs.say_rows.+say_values.Given as goal

abbrev pub decreases-say_values : goal.decreases-say_values
decreases-say_values l = length l.columns.now
