use Rattle.std.proofs.Common.{sym, ◌∙◌, arith}
use Rattle.std.proofs.lemmas.Bool.Decides.{nat_tests}
use Rattle.ts_series.proofs.PlacesLemmas.{begins_below, next_above}
use Rattle.ts_series.proofs.lay.begun.Goals as goal

pub begun_below-requires : goal.begun_below-requires
begun_below-requires c = next_above c.args.place.now c.args.back.now _ (λ none. let full = sym c.is_empty.ensures ∙ c.if-is_empty.false in grind (arith, nat_tests)) c.requires

pub returns-clause-begins : goal.returns-clause-begins
returns-clause-begins c =
    let e = c.begun_below.ensures in
    begins_below c.args.place.now c.args.back.now _ c.args.read.now.at c.begun_below.result.at (λ none. let full = sym c.is_empty.ensures ∙ c.if-is_empty.false in grind (arith, nat_tests)) c.requires e.low e.below e.told
