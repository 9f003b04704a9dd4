use Rattle.std.proofs.Common.{◌≡◌, ◌++◌, length}
use Rattle.ts_pattern.specs.Patterns.{printed_runs}
use Rattle.ts_pattern.proofs.text.print_runs.Given as goal

abbrev pub invariant-loop-rest : goal.invariant-loop-rest
invariant-loop-rest l = l.out ++ printed_runs l.rest ≡ l.initial.out ++ printed_runs l.fn.runs

abbrev pub decreases-loop-rest : goal.decreases-loop-rest
decreases-loop-rest l = length l.rest
