use Rattle.std.proofs.Common.{◌-◌, ◌≤◌, length}
use Rattle.ts_space.specs.Place.{rank_of}
use Rattle.ts_space.proofs.place.rank.Given as goal

abbrev pub invariant-loop-low : goal.invariant-loop-low
invariant-loop-low l = record {
  from : l.low ≤ rank_of l.at l.places;
  to : rank_of l.at l.places ≤ l.high;
  within : l.high ≤ length l.places;
}

abbrev pub decreases-loop-low : goal.decreases-loop-low
decreases-loop-low l = l.high - l.low
