use Rattle.std.proofs.Common.{◌≡◌, length}
use Rattle.ts_text.specs.Phrase.{repeated, onto}
use Rattle.ts_arguments.specs.Arguments.{a_column}
use Rattle.ts_arguments.proofs.column.read_columns.Given as goal

abbrev pub invariant-loop-behind : goal.invariant-loop-behind
invariant-loop-behind l = onto l.columns (repeated a_column l.rest) ≡ onto l.fn.columns (repeated a_column l.bytes)

abbrev pub decreases-loop-behind : goal.decreases-loop-behind
decreases-loop-behind l = length l.rest
