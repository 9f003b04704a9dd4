-- The scales are those that are left.
use Rattle.std.proofs.Common.{length}
use Rattle.ts_say.proofs.say_folds.+say_scaled_values.Given as goal

abbrev pub decreases-say_scaled_values : goal.decreases-say_scaled_values
decreases-say_scaled_values l = length l.scales.now
