-- The elements of the places before an index are counted.
use Rattle.std.proofs.Common.{◌≡◌, ◌≤◌, ◌-◌, ◌^◌, min, take, length}
use Rattle.ts_space.specs.Place.{count_of}
use Rattle.ts_clip.proofs.chain_shown.count_places.Given as goal

abbrev pub invariant-loop-passed : goal.invariant-loop-passed
invariant-loop-passed l = record {
  within : l.passed ≤ length l.places;
  counted : l.count ≡ min (count_of (take l.passed l.places)) (2 ^ 64 - 1);
}

abbrev pub decreases-loop-passed : goal.decreases-loop-passed
decreases-loop-passed l = length l.places - l.passed
