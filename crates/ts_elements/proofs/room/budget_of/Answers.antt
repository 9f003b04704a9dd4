use Rattle.std.proofs.Common.{ℕ, Some, List, ap, sym, ◌∙◌, arith}
use Rattle.std.specs.Option.{option_copied}
use Rattle.ts_space.specs.Directory.{Directory}
use Rattle.ts_model.specs.Definitions.{Definitions}
use Rattle.ts_container.specs.KeptCharges.{AreCharges}
use Rattle.ts_elements.specs.Elements.{IsCharged}
use Rattle.ts_elements.proofs.BudgetLemmas.{inside, own_part, budget_here, others_within}
use Rattle.ts_elements.proofs.room.budget_of.Goals as goal

sums_of : (sums : List ℕ) (d : Definitions) (space : Directory) → IsCharged sums d space → AreCharges sums d space
unfolding IsCharged
sums_of sums d space charged = charged.0

pub get-requires-2 : goal.get-requires-2
get-requires-2 c =
    inside c.args.defs.now.definitions c.args.space.now c.args.shelf.now.series c.args.shelf.now.kind.now _ c.in-Some-Series.container c.in-Some-Series.regular c.requires.slot c.requires.limits c.requires.columns
    (sym c.get.ensures ∙ ap option_copied c.in-Some-Series.is ∙ ap Some c.in-Some-Series.field-0-is)

pub charge_of-all-requires-clause-slot : goal.charge_of-all-requires-clause-slot
charge_of-all-requires-clause-slot c =
    inside c.args.defs.now.definitions c.args.space.now c.args.shelf.now.series c.args.shelf.now.kind.now _ c.in-Some-Series.container c.in-Some-Series.regular c.requires.slot c.requires.limits c.requires.columns
    (sym c.get.ensures ∙ ap option_copied c.in-Some-Series.is ∙ ap Some c.in-Some-Series.field-0-is)

pub overflow_sub-result : goal.overflow_sub-result
overflow_sub-result c =
    let part = own_part c.args.defs.now.definitions c.args.space.now c.args.shelf.now.series c.args.shelf.now.kind.now _ c.in-Some-Series.container c.in-Some-Series.regular c.requires.slot c.requires.limits c.requires.columns
    (sym c.get.ensures ∙ ap option_copied c.in-Some-Series.is ∙ ap Some c.in-Some-Series.field-0-is) c.args.charges.now c.requires.rules (sums_of c.args.charges.now c.args.defs.now.definitions c.args.space.now c.requires.charged) in
    omega (arith, part, c.charge_now.ensures, c.charge_of-all.ensures.value)

pub returns-clause-within : goal.returns-clause-within
returns-clause-within c =
    let here = sym c.get.ensures ∙ ap option_copied c.in-Some-Series.is ∙ ap Some c.in-Some-Series.field-0-is in
    let part = own_part c.args.defs.now.definitions c.args.space.now c.args.shelf.now.series c.args.shelf.now.kind.now _ c.in-Some-Series.container c.in-Some-Series.regular c.requires.slot c.requires.limits c.requires.columns here
    c.args.charges.now c.requires.rules (sums_of c.args.charges.now c.args.defs.now.definitions c.args.space.now c.requires.charged) in
    others_within c.args.defs.now.definitions c.args.space.now c.args.shelf.now.series c.args.shelf.now.kind.now _ c.in-Some-Series.container c.in-Some-Series.regular c.requires.slot c.requires.limits c.requires.columns here
    _ _ c.in-Some-Container.quota _ (sym c.get-2.ensures ∙ ap option_copied c.in-Some-Container.is ∙ ap Some c.in-Some-Container.field-0-is) (omega (arith, part, c.charge_now.ensures, c.charge_of-all.ensures.value)) c.requires.quotas

pub returns-clause-budget : goal.returns-clause-budget
returns-clause-budget c =
    let here = sym c.get.ensures ∙ ap option_copied c.in-Some-Series.is ∙ ap Some c.in-Some-Series.field-0-is in
    let part = own_part c.args.defs.now.definitions c.args.space.now c.args.shelf.now.series c.args.shelf.now.kind.now _ c.in-Some-Series.container c.in-Some-Series.regular c.requires.slot c.requires.limits c.requires.columns here
    c.args.charges.now c.requires.rules (sums_of c.args.charges.now c.args.defs.now.definitions c.args.space.now c.requires.charged) in
    budget_here c.args.defs.now.definitions c.args.space.now c.args.shelf.now.series c.args.shelf.now.kind.now _ c.in-Some-Series.container c.in-Some-Series.regular c.requires.slot c.requires.limits c.requires.columns here
    _ _ c.in-Some-Container.quota _ (sym c.get-2.ensures ∙ ap option_copied c.in-Some-Container.is ∙ ap Some c.in-Some-Container.field-0-is) (omega (arith, part, c.charge_now.ensures, c.charge_of-all.ensures.value))
