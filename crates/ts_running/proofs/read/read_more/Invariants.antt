use Rattle.std.proofs.Common.{◌-◌}
use Rattle.ts_running.proofs.GrammarLemmas.{MoreRead}
use Rattle.ts_running.proofs.read.read_more.Given as goal

abbrev pub invariant-loop : goal.invariant-loop
invariant-loop l = MoreRead 31 (32 - l.counter) l.fn.text l.fn.steps.items l.steps.items l.rest
