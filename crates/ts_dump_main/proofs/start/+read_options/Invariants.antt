-- Fewer words are left.
use Rattle.std.proofs.Common.{length}
use Rattle.ts_dump_main.proofs.start.+read_options.Given as goal

abbrev pub decreases-read_options : goal.decreases-read_options
decreases-read_options l = length l.options.now
