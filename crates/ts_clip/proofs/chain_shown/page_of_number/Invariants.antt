-- The elements before a place are counted, and the others are left.
use Rattle.std.proofs.Common.{◌≡◌, ◌+◌, take}
use Rattle.ts_space.specs.Place.{count_of}
use Rattle.ts_clip.proofs.chain_shown.page_of_number.Given as goal

abbrev pub invariant-loop-place : goal.invariant-loop-place
invariant-loop-place l = record {
  here : l.index ≡ l.start + l.place-index;
  counted : count_of (take l.index l.places) + l.left ≡ l.n;
}
