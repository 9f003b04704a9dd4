-- Two rows of runs that repeat, laid side by side.
use Rattle.std.specs.Prelude.{ℕ, ◌+◌, Bool, List}
use Rattle.ts_pattern.specs.declared.run.Run.{Run}
use Rattle.ts_pattern.specs.declared.junction.Junction.{Junction}
use Rattle.ts_pattern.specs.Patterns.{later_flag, joined}

-- the joined flag k intervals after a place in each
abbrev pub side_by_side : Junction → List Run → ℕ → List Run → ℕ → ℕ → Bool
side_by_side junction a from_a b from_b k = joined junction (later_flag a (from_a + k)) (later_flag b (from_b + k))
