use Rattle.std.proofs.Common.{None, sym, subst}
use Rattle.ts_answer.specs.declared.effect.Effect.{Effect}
use Rattle.ts_answer.specs.CarriedOut.{CanApply, definitions_after, lists_after}
use Rattle.ts_model.specs.Definitions.{Definitions, Tables, IsDefinitions}
use Rattle.ts_layout.specs.Meaning.{KeepLimits}
use Rattle.ts_container.specs.KeptCharges.{AreCharges}
use Rattle.ts_effects.specs.Charged.{CanCount}
use Rattle.ts_effects.proofs.ChargedLemmas.{rising_then, countable_then}
use Rattle.ts_effects.proofs.RedefinedLemmas.{charges_stay}
use Rattle.ts_effects.proofs.effect.apply.Goals as goal

pub change_places-requires-clause-rising : goal.change_places-requires-clause-rising
change_places-requires-clause-rising c =
    rising_then c.args.effect c.in-Places.slot c.in-Places.moved c.args.charges.now c.args.defs.now.definitions c.args.space.now c.in-Places.is
    (subst (λ (e : Effect). CanApply e c.args.defs.now.definitions) c.in-Places.is c.requires.can) c.places-slots.ensures.slots c.requires.charge

pub change_places-requires-clause-countable : goal.change_places-requires-clause-countable
change_places-requires-clause-countable c =
    countable_then c.args.effect c.in-Places.slot c.in-Places.moved c.args.charges.now c.args.defs.now.definitions c.args.space.now c.in-Places.is
    (subst (λ (e : Effect). CanApply e c.args.defs.now.definitions) c.in-Places.is c.requires.can) c.places-slots.ensures.slots c.requires.charge

pub returns-in-Slot-clause-charges : goal.returns-in-Slot-clause-charges
returns-in-Slot-clause-charges c =
    c.charge_definition.ensures c.args.defs.now.definitions c.in-Slot.def c.set.ensures.slot c.requires.charge.charged

pub returns-in-Series-clause-charges : goal.returns-in-Series-clause-charges
returns-in-Series-clause-charges c =
    subst (λ (d : Definitions). AreCharges c.drop_places.new.charges d c.drop_places.new.space) (sym c.set-in-Series.ensures.slot)
    (charges_stay c.args.defs.now.definitions c.drop_places.new.space c.in-Series.slot None c.drop_places.new.charges c.drop_places.ensures.places c.drop_places.ensures.charged)

-- what all becomes can be counted
pub count-requires-clause-limits : goal.count-requires-clause-limits
count-requires-clause-limits c =
    subst (λ (t : Tables). KeepLimits t.definitions) (sym c.into_inner-made.ensures)
    (subst (λ (e : Effect). CanCount (definitions_after e c.args.defs.now.definitions) (lists_after e c.args.space.now.lists)) c.in-Whole.is c.requires.charge.after).limits

pub count-requires-clause-rules : goal.count-requires-clause-rules
count-requires-clause-rules c =
    subst (λ (t : Tables). IsDefinitions t.definitions) (sym c.into_inner-made.ensures)
    (subst (λ (e : Effect). CanCount (definitions_after e c.args.defs.now.definitions) (lists_after e c.args.space.now.lists)) c.in-Whole.is c.requires.charge.after).rules

pub count-requires-clause-countable : goal.count-requires-clause-countable
count-requires-clause-countable c =
    (subst (λ (e : Effect). CanCount (definitions_after e c.args.defs.now.definitions) (lists_after e c.args.space.now.lists)) c.in-Whole.is c.requires.charge.after).countable
