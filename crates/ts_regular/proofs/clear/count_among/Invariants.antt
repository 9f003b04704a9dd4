use Rattle.std.proofs.Common.{◌≡◌, ◌-◌, ◌^◌, min, take}
use Rattle.ts_space.specs.Place.{count_of}
use Rattle.ts_regular.proofs.clear.count_among.Given as goal

abbrev pub invariant-loop-place : goal.invariant-loop-place
invariant-loop-place l = l.count ≡ min (count_of (take l.place-index l.places)) (2 ^ 64 - 1)
