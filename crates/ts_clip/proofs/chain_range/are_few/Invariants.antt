-- The elements of the places before an index are counted, and few.
use Rattle.std.proofs.Common.{◌≡◌, ◌≤◌, take}
use Rattle.ts_space.specs.Place.{count_of}
use Rattle.ts_clip.proofs.chain_range.are_few.Given as goal

abbrev pub invariant-loop-place : goal.invariant-loop-place
invariant-loop-place l = record {
  counted : l.count ≡ count_of (take l.place-index l.places);
  few : l.count ≤ 1_000_000;
}
