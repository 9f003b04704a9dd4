-- The sums are those of the series so far.
use Rattle.std.proofs.Common.{◌≡◌, ℕ, ◌*◌, ◌^◌, ◌<◌, ◌≤◌, get_or, take}
use Rattle.std.specs.List.{sum_by}
use Rattle.ts_container.specs.KeptCharges.{charged_to}
use Rattle.ts_container.proofs.kept_charges.Charges.count.Given as goal

abbrev pub invariant-loop-slot : goal.invariant-loop-slot
invariant-loop-slot l = record {
  sums : (k : ℕ) → k < 64 → get_or l.self k 0 ≡ sum_by (charged_to l.defs.definitions l.space k) (take l.slot-index l.slot-items);
  small : (k : ℕ) → get_or l.self k 0 ≤ l.slot-index * 2 ^ 33;
}
