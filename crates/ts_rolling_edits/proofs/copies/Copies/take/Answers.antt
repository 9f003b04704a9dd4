use Rattle.std.proofs.Common.{ap, sym, ◌∙◌, refl, subst}
use Rattle.ts_model.specs.Definitions.{Definitions}
use Rattle.ts_answer.specs.CarriedOut.{CanApply, definitions_after, lists_after}
use Rattle.ts_effects.proofs.CallerLemmas.{can_charge_then}
use Rattle.ts_rolling_edits.proofs.copies.Copies.take.Goals as goal

pub apply-requires-clause-can : goal.apply-requires-clause-can
apply-requires-clause-can c = subst (λ (d : Definitions). CanApply c.args.effect d) (sym c.reserve_for.ensures.definitions) c.requires.can

pub apply-requires-clause-charge : goal.apply-requires-clause-charge
apply-requires-clause-charge c =
    let copies = c.args.self.now in
    can_charge_then c.args.effect copies.charges copies.charges copies.defs.definitions c.reserve_for.new.defs.definitions copies.space c.reserve_for.new.space c.requires.charge c.reserve_for.ensures.definitions c.reserve_for.ensures.lists refl

pub returns-clause-definitions : goal.returns-clause-definitions
returns-clause-definitions c = c.apply.ensures.definitions ∙ ap (definitions_after c.args.effect) c.reserve_for.ensures.definitions

pub returns-clause-lists : goal.returns-clause-lists
returns-clause-lists c = c.apply.ensures.lists ∙ ap (lists_after c.args.effect) c.reserve_for.ensures.lists
