-- Each step goes on with one column less.
use Rattle.std.proofs.Common.{length}
use Rattle.ts_row.proofs.decoding.+decode_values.Given as goal

abbrev pub decreases-decode_values : goal.decreases-decode_values
decreases-decode_values l = length l.columns.now
