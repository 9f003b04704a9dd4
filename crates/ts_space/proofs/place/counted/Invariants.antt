use Rattle.std.proofs.Common.{◌≡◌, take}
use Rattle.ts_space.specs.Place.{kept_count}
use Rattle.ts_space.proofs.place.counted.Given as goal

abbrev pub invariant-loop-place : goal.invariant-loop-place
invariant-loop-place l = l.count ≡ kept_count (take l.place-index l.places)
