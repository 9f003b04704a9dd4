use Rattle.std.proofs.Common.{◌≡◌, ◌^◌, ◌<◌, ◌++◌, ℕ, List, length, take}
use Rattle.std.specs.List.{flat_map}
use Rattle.ts_pattern.specs.declared.run.Run.{Run}
use Rattle.ts_pattern.specs.Patterns.{total}
use Rattle.ts_layout.specs.Slot.{run_bytes}
use Rattle.ts_slots.proofs.plan.parse_runs.Given as goal

abbrev pub invariant-loop-i : goal.invariant-loop-i
invariant-loop-i l = (runs : List Run) (rest : List ℕ) → length runs ≡ l.count → total runs < 2 ^ 31 → l.bytes ≡ flat_map run_bytes runs ++ rest → l.runs.items ≡ take l.i runs
