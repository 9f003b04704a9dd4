-- The columns are those that are left.
use Rattle.std.proofs.Common.{length}
use Rattle.ts_say.proofs.say_bytes.+say_each_in.Given as goal

abbrev pub decreases-say_each_in : goal.decreases-say_each_in
decreases-say_each_in l = length l.columns.now
