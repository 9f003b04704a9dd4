-- The command that says the running values of a function.
use Rattle.std.specs.Prelude.{ℤ, List, ℕ}
use Rattle.ts_expr.specs.declared.function.Function.{Function}
use Rattle.ts_expr.specs.declared.function.Function.TheVariants.{Sum}
use Rattle.ts_command.specs.declared.command.Command.{Command}
use Rattle.ts_command.specs.declared.command.Command.TheVariants.{TSRunningSum, TSRunningAvg}

-- of sums, or of means
abbrev pub running_of : Function → List ℕ → List ℕ → ℤ → ℤ → ℤ → Command
running_of Sum text key span from to = TSRunningSum text key span from to
running_of function text key span from to = TSRunningAvg text key span from to
