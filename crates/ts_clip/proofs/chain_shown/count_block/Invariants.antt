-- The places before are counted, each of which tells of fewer than 65536 elements.
use Rattle.std.proofs.Common.{◌≡◌, ◌≤◌, ◌*◌, take}
use Rattle.ts_space.specs.Place.{count_of}
use Rattle.ts_clip.proofs.chain_shown.count_block.Given as goal

abbrev pub invariant-loop-place : goal.invariant-loop-place
invariant-loop-place l = record {
  few : l.count ≤ l.place-index * 65535;
  counted : l.count ≡ count_of (take l.place-index l.block);
}
