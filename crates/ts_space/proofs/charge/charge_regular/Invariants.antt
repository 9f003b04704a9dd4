use Rattle.std.proofs.Common.{◌≡◌, ◌≤◌, take}
use Rattle.ts_space.specs.Charge.{regular_charge}
use Rattle.ts_space.proofs.ChargeLemmas.{last_page}
use Rattle.ts_space.proofs.charge.charge_regular.Given as goal

abbrev pub invariant-loop-offset : goal.invariant-loop-offset
invariant-loop-offset l = record {
  charge : l.charge ≡ regular_charge l.r (take l.offset-index l.offsets);
  last : l.last ≡ last_page l.r l.offset-index l.offsets;
  few : l.charge ≤ l.offset-index;
}
