-- Each step goes on with one column less.
use Rattle.std.proofs.Common.{length}
use Rattle.ts_row.proofs.encoding.+encode_values.Given as goal

abbrev pub decreases-encode_values : goal.decreases-encode_values
decreases-encode_values l = length l.columns.now
