use Rattle.std.proofs.Common.{◌≡◌, ◌≤◌, ◌+◌, ◌-◌, length}
use Rattle.ts_pattern.specs.Patterns.{runs_of}
use Rattle.ts_pattern.specs.Line.{side_by_side}
use Rattle.ts_pattern.proofs.join.join.Given as goal

abbrev pub invariant-loop-at : goal.invariant-loop-at
invariant-loop-at l = record {
  runs : l.runs.items ≡ runs_of (side_by_side l.junction l.fn.left.runs.now l.fn.left.from l.fn.right.runs.now l.fn.right.from) l.at;
  within : l.at ≤ l.length;
  left_at : l.a.at ≡ l.fn.left.from + l.at;
  right_at : l.b.at ≡ l.fn.right.from + l.at;
  left : l.a.runs.now ≡ l.fn.left.runs.now;
  right : l.b.runs.now ≡ l.fn.right.runs.now;
  few : length l.runs.items ≤ 512;
}

abbrev pub decreases-loop-at : goal.decreases-loop-at
decreases-loop-at l = l.length - l.at
