use Rattle.std.proofs.Common.{◌≡◌, ℕ, ◌<◌, Some, sym, subst}
use Rattle.ts_layout.specs.Meaning.{heading_in}
use Rattle.ts_effects.proofs.ChargedLemmas.{others_same, room_is, charged_then}
use Rattle.ts_effects.proofs.charge.change_places.Goals as goal

pub charge_of_places-before-requires-clause-room : goal.charge_of_places-before-requires-clause-room
charge_of_places-before-requires-clause-room c = room_is c.args.defs.now.definitions c.requires.can.limits c.args.slot c.in-Some.rate c.in-Some.ensures

pub charge_of_places-after-requires-clause-room : goal.charge_of_places-after-requires-clause-room
charge_of_places-after-requires-clause-room c = room_is c.args.defs.now.definitions c.requires.can.limits c.args.slot c.in-Some.rate c.in-Some.ensures

pub returns-clause-charged : goal.returns-clause-charged
returns-clause-charged c =
    let d = c.args.defs.now.definitions in
    let old = c.args.space.now in
    let new = c.exchange-2.new.space in
    let sums = c.args.charges.now in
    let is = c.in-Some.ensures in
    charged_then d old new c.args.slot c.in-Some.rate is sums c.charge_of_places-before.result c.charge_of_places-after.result c.change.new.self c.charge_of_places-before.ensures.value c.charge_of_places-after.ensures.value c.change.ensures
    (c.a_charge_changes_with_a_series.ensures.changed d old new c.args.slot is.series is.heading sums c.requires.can.rules is.there
    (subst (λ (n : ℕ). n < 64) (sym is.container) is.below) (subst (λ (n : ℕ). heading_in d n ≡ Some is.heading) (sym is.container) is.has) c.of-slots.ensures.slots
    (others_same old.lists new.lists c.args.slot _ c.exchange-2.ensures.lists) c.requires.charged)
