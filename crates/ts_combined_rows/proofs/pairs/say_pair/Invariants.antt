-- The pages stay, and the rows before a stamp are said.
use Rattle.std.proofs.Common.{◌≤ℤ◌, ◌+ℤ◌, ◌-ℤ◌, pos, unsigned_abs, Ok}
use Rattle.ts_irregular.specs.Call.{Reads}
use Rattle.ts_combined_rows.specs.Pairs.{AreTold}
use Rattle.ts_combined_rows.proofs.PairLemmas.{IsUnderWay}
use Rattle.ts_combined_rows.proofs.pairs.say_pair.Given as goal

abbrev pub invariant-loop-low : goal.invariant-loop-low
invariant-loop-low g l = record {
  call : Reads {T = Unit {0}} g.P.Pages.tells (Ok tt) (g.P.Pages.contents l.fn.pages) (g.P.Pages.contents l.pages);
  undisturbed : g.P.Pages.undisturbed l.fn.pages l.pages;
  late : l.from ≤ℤ l.low;
  said : AreTold g.P.Pages.tells l.pair (g.P.Pages.contents l.fn.pages) (λ es fs. IsUnderWay l.pair es fs l.from l.low l.to l.fn.out l.count l.out);
}

abbrev pub decreases-loop-low : goal.decreases-loop-low
decreases-loop-low g l = unsigned_abs ((l.to +ℤ pos 1) -ℤ l.low)
