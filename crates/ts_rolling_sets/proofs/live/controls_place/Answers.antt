use Rattle.std.proofs.Common.{ℕ, List, ◌++◌, codes, subst}
use Rattle.ts_rolling_sets.specs.Order.{IsPlace}
use Rattle.ts_rolling_sets.proofs.live.controls_place.Goals as goal

pub returns : goal.returns
returns c = subst (λ (front : List ℕ). IsPlace c.args.defs.now.definitions (front ++ codes "#w") c.place_of.result) c.as_slice.ensures.value c.place_of.ensures
