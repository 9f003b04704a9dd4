use Rattle.ts_base.specs.declared.refusal.Refusal.TheVariants.{InUse}
use Rattle.ts_model.specs.Definitions.{Definitions, IsUsed}
use Rattle.ts_layout.proofs.CallerLemmas.{used_by_name, unused_by_name}
use Rattle.ts_answer.specs.Answer.{drop_definition}
use Rattle.ts_answer.proofs.CallerLemmas.{goes, stops, passes, refuses, comes}
use Rattle.ts_define.proofs.DefinedLemmas.{dropped}
use Rattle.ts_define.proofs.drops.drop_definition.Goals as goal
use Rattle.std.proofs.Common.{subst}

pub returns-in_err-slot-clause-tried : goal.returns-in_err-slot-clause-tried
unfolding drop_definition
returns-in_err-slot-clause-tried c count l by = stops _ c.in_err-slot.field-0.0 c.from_residual.ensures.1 (c.in_err-slot.ensures.tried count l by)

pub returns-then-has_user-clause-tried : goal.returns-then-has_user-clause-tried
unfolding drop_definition
returns-then-has_user-clause-tried c count l by =
    let slot = c.in_ok-slot.slot in
    goes _ slot (c.in_ok-slot.ensures.tried count l by) (λ value there.
    refuses InUse _ (used_by_name c.args.kind slot c.args.name.now l by.rules there.at.is (subst (λ (d : Definitions). IsUsed c.args.kind slot d) by.definitions (c.has_user.ensures.some c.if-has_user.true))))

pub returns-clause-tried : goal.returns-clause-tried
unfolding drop_definition
returns-clause-tried c count l by =
    let slot = c.in_ok-slot.slot in
    goes _ slot (c.in_ok-slot.ensures.tried count l by) (λ value there.
    let unused = subst (λ (d : Definitions). IsUsed c.args.kind slot d → ⊥) by.definitions (c.has_user.ensures.none c.if-has_user.false) in
    passes InUse _ (unused_by_name c.args.kind slot c.args.name.now l by.rules there.at.is unused)
    (comes _ _ (dropped l by.rules by.filled c.args.kind slot c.args.name.now (record { named = there.at.is; pageless = c.requires; unused = unused }))))
