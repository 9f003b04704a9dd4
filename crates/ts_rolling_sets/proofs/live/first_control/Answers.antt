use Rattle.std.proofs.Common.{◌≡◌, ℕ, ◌++◌, List, get_or, codes, false, sym, ap, ◌∙◌, arith}
use Rattle.ts_model.specs.Definitions.{Definitions}
use Rattle.ts_rolling_sets.specs.InMemory.{control_at}
use Rattle.ts_rolling_sets.specs.Order.{is_below}
use Rattle.ts_rolling_sets.proofs.PickedLemmas.{none_next}
use Rattle.ts_rolling_sets.proofs.SearchLemmas.{first_from, no_control_on, no_control_at_all}
use Rattle.ts_rolling_sets.proofs.live.first_control.Goals as goal

pub series_from-slot-items-requires : goal.series_from-slot-items-requires
series_from-slot-items-requires c = c.requires.within

pub returns-in-Some-clause-value : goal.returns-in-Some-clause-value
returns-in-Some-clause-value c =
    first_from c.args.defs.now.definitions c.args.set.now c.args.place c.requires c.series_from-slot-items.result.now c.series_from-slot-items.ensures.rest c.loop-slot.slot-index c.in-Some.control.kept c.loop-slot-test.true c.loop-slot.invariant
    (sym c.in-Some.ensures.value)

pub returns-then-not-is_below-clause-value : goal.returns-then-not-is_below-clause-value
returns-then-not-is_below-clause-value c =
    let d : Definitions = c.args.defs.now.definitions in
    let set : List ℕ = c.args.set.now in
    let slots : List ℕ = c.series_from-slot-items.result.now in
    let i = c.loop-slot.slot-index in
    let behind : is_below d (set ++ codes "#x") (get_or slots i 0) ≡ false = ap (λ (front : List ℕ). is_below d (front ++ codes "#x") (get_or slots i 0)) (sym c.as_slice.ensures.value) ∙ sym c.is_below.ensures ∙ c.if-not-is_below.true in
    no_control_on d set c.args.place c.requires slots c.series_from-slot-items.ensures.rest i c.loop-slot-test.true c.loop-slot.invariant behind

pub loop-slot-preserved : goal.loop-slot-preserved
loop-slot-preserved c =
    none_next (control_at c.args.defs.now.definitions c.args.set.now) c.series_from-slot-items.result.now c.loop-slot.slot-index c.loop-slot.invariant (sym c.in_default.ensures.value)

pub returns-clause-value : goal.returns-clause-value
returns-clause-value c =
    let done = c.loop-slot-test.false in
    no_control_at_all c.args.defs.now.definitions c.args.set.now c.args.place c.requires c.series_from-slot-items.result.now c.series_from-slot-items.ensures.rest (λ k inside. c.loop-slot.invariant k (omega (arith, done, inside)) inside)
