use Rattle.std.proofs.Common.{◌-◌, ◌<◌}
use Rattle.ts_container.specs.Spans.{AreApartTo, HasClashTo}
use Rattle.ts_container.proofs.sorted.least_overlapping.Given as goal

abbrev pub decreases-loop-high : goal.decreases-loop-high
decreases-loop-high l = l.high - l.low

abbrev pub invariant-loop-high : goal.invariant-loop-high
invariant-loop-high l = (l.low < l.high) × AreApartTo l.low l.spans × HasClashTo l.high l.spans
