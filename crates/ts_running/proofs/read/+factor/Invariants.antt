use Rattle.std.proofs.Common.{◌+◌, ◌*◌, ◌≤◌, length}
use Rattle.ts_running.specs.Grammar.{times_signs, sum_signs, factor_in, term_of, sum_of}
use Rattle.ts_running.proofs.OnwardLemmas.{Onward}
use Rattle.ts_running.proofs.read.+factor.Given as goal

abbrev pub decreases-read_factor : goal.decreases-read_factor
decreases-read_factor l = 3 * l.inside

abbrev pub decreases-read_term : goal.decreases-read_term
decreases-read_term l = 3 * l.inside + 1

abbrev pub decreases-read_sum : goal.decreases-read_sum
decreases-read_sum l = 3 * l.inside + 2

abbrev pub invariant-read_term-loop-operation : goal.invariant-read_term-loop-operation
invariant-read_term-loop-operation l = record {
  so_far : Onward (term_of (factor_in l.inside)) times_signs (factor_in l.inside) l.fn.text l.fn.steps.items l.steps.items l.rest;
  shorter : length l.rest ≤ length l.fn.text;
}

abbrev pub decreases-read_term-loop-operation : goal.decreases-read_term-loop-operation
decreases-read_term-loop-operation l = length l.rest

abbrev pub invariant-read_sum-loop-operation : goal.invariant-read_sum-loop-operation
invariant-read_sum-loop-operation l = record {
  so_far : Onward (sum_of (factor_in l.inside)) sum_signs (term_of (factor_in l.inside)) l.fn.text l.fn.steps.items l.steps.items l.rest;
  shorter : length l.rest ≤ length l.fn.text;
}

abbrev pub decreases-read_sum-loop-operation : goal.decreases-read_sum-loop-operation
decreases-read_sum-loop-operation l = length l.rest
