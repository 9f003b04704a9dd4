use Rattle.std.proofs.Common.{◌≡◌, [], length}
use Rattle.ts_text.specs.Phrase.{repeated, onto}
use Rattle.ts_arguments.specs.Arguments.{a_literal}
use Rattle.ts_arguments.proofs.call.read_literals.Given as goal

abbrev pub invariant-loop-behind : goal.invariant-loop-behind
invariant-loop-behind l = onto l.values (repeated a_literal l.rest) ≡ onto [] (repeated a_literal l.bytes)

abbrev pub decreases-loop-behind : goal.decreases-loop-behind
decreases-loop-behind l = length l.rest
