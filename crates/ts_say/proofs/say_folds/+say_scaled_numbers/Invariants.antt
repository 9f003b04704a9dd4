-- The scales are those that are left.
use Rattle.std.proofs.Common.{length}
use Rattle.ts_say.proofs.say_folds.+say_scaled_numbers.Given as goal

abbrev pub decreases-say_scaled_numbers : goal.decreases-say_scaled_numbers
decreases-say_scaled_numbers l = length l.scales.now
