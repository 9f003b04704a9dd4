use Rattle.std.proofs.Common.{◌≡◌, replicate}
use Rattle.ts_container.proofs.kept_charges.Charges.new.Given as goal

abbrev pub invariant-loop-slot : goal.invariant-loop-slot
invariant-loop-slot l = l.sums.items ≡ replicate l._slot 0
