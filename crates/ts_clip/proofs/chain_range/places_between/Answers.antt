use Rattle.std.proofs.Common.{◌+◌, refl, arith}
use Rattle.ts_series.proofs.PlacesLemmas.{range_from, range_all}
use Rattle.ts_clip.proofs.ChainRangeLemmas.{range_turned, range_before, range_held}
use Rattle.ts_clip.proofs.ChainShownLemmas.{bounds_held}
use Rattle.ts_clip.proofs.chain_range.places_between.Goals as goal

pub returns-then-is_earlier-clause-range : goal.returns-then-is_earlier-clause-range
returns-then-is_earlier-clause-range c = range_turned c.args.from c.args.to c.args.places.now (c.if-is_earlier.ensures.yes refl)

pub returns-in_default-clause-range : goal.returns-in_default-clause-range
returns-in_default-clause-range c = range_before c.args.from c.args.to c.args.places.now (c.in_default.ensures.none refl)

pub returns-in-Some-holder-clause-order : goal.returns-in-Some-holder-clause-order
returns-in-Some-holder-clause-order c =
    let r = range_from c.args.from c.args.to (c.if-is_earlier.ensures.no refl) c.args.places.now c.in-Some-holder.first c.in-Some.last c.in-Some-holder.ensures.some c.in-Some.ensures.some in
    omega (arith, r.first_is, r.stop_is)

pub returns-in-Some-holder-clause-range : goal.returns-in-Some-holder-clause-range
returns-in-Some-holder-clause-range c =
    range_held c.args.from c.args.to c.args.places.now c.in-Some-holder.first (c.in-Some.last + 1)
    (range_from c.args.from c.args.to (c.if-is_earlier.ensures.no refl) c.args.places.now c.in-Some-holder.first c.in-Some.last c.in-Some-holder.ensures.some c.in-Some.ensures.some)

pub returns-in-None-clause-range : goal.returns-in-None-clause-range
returns-in-None-clause-range c =
    range_held c.args.from c.args.to c.args.places.now 0 (c.in-Some.last + 1) (range_all c.args.from c.args.to c.args.places.now c.in-Some.last (c.in-None.ensures.none refl) c.in-Some.ensures.some)

pub returns-in-Some-holder-clause-bounded : goal.returns-in-Some-holder-clause-bounded
returns-in-Some-holder-clause-bounded c =
    bounds_held c.args.from c.args.to c.args.places.now c.in-Some-holder.first (c.in-Some.last + 1)
    (range_from c.args.from c.args.to (c.if-is_earlier.ensures.no refl) c.args.places.now c.in-Some-holder.first c.in-Some.last c.in-Some-holder.ensures.some c.in-Some.ensures.some)

pub returns-in-None-clause-bounded : goal.returns-in-None-clause-bounded
returns-in-None-clause-bounded c =
    bounds_held c.args.from c.args.to c.args.places.now 0 (c.in-Some.last + 1) (range_all c.args.from c.args.to c.args.places.now c.in-Some.last (c.in-None.ensures.none refl) c.in-Some.ensures.some)
