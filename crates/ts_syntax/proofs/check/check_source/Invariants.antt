use Rattle.std.proofs.Common.{◌≡◌, ◌-◌, ◌≤◌, ◌++◌, ℕ, IsTrue, List, [], length, Some, Ok, false}
use Rattle.ts_syntax.specs.Mistakes.{mistakes_from}
use Rattle.ts_syntax.specs.Reading.{HasRead, Told}
use Rattle.ts_syntax.proofs.check.check_source.Given as goal

abbrev pub invariant-loop-checker : goal.invariant-loop-checker
invariant-loop-checker g l = record {
  within : l.count ≤ 268435456;
  faults : (g.R.Source.input l.source).pull_faults ≡ (g.R.Source.input l.fn.source).pull_faults;
  run : (taken : List ℕ) × (length taken ≡ l.count) × HasRead taken l.checker × (IsTrue g.R.Source.tells → (g.R.Source.input l.fn.source).left ≡ taken ++ (g.R.Source.input l.source).left)
      × Told g.O.Output.tells (mistakes_from [] (Some []) taken) (Ok (tt {0})) false l.checker.found (g.O.Output.heard l.fn.output) (g.O.Output.heard l.output);
}

abbrev pub decreases-loop-checker : goal.decreases-loop-checker
decreases-loop-checker g l = 268435456 - l.count
