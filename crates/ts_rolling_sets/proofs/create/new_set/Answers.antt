use Rattle.std.proofs.Common.{ℕ, List, sym, ap, subst, ◌∙◌}
use Rattle.std.specs.Int.{w64}
use Rattle.std.specs.Prelude.{unsigned_abs}
use Rattle.std.proofs.lemmas.Int.{to_z-of_z}
use Rattle.ts_model.specs.declared.kind.Kind.TheVariants.{Series as AllSeries}
use Rattle.ts_layout.specs.Meaning.{catalogue_of}
use Rattle.ts_base.specs.declared.refusal.Refusal.TheVariants as refusals
use Rattle.ts_rolling.specs.Sets.{control_key}
use Rattle.ts_answer.specs.Answer.{outcome, carried_out, create_regular}
use Rattle.ts_answer.specs.Elements.{roll_create}
use Rattle.ts_answer.specs.Decided.{DefinesAs}
use Rattle.ts_answer.specs.Tried.{IsTried}
use Rattle.ts_answer.proofs.CallerLemmas.{goes, stops, no_memory, passes, refuses}
use Rattle.ts_rolling_sets.proofs.OrderLemmas.{control_is}
use Rattle.ts_rolling_sets.proofs.ControlLemmas.{short_set}
use Rattle.ts_rolling_sets.proofs.create.new_set.Goals as goal

pub control_key-requires-clause-short : goal.control_key-requires-clause-short
control_key-requires-clause-short c = short_set c.args.set.now c.requires.form.0

pub returns-in_err-calendar_named-clause-decision : goal.returns-in_err-calendar_named-clause-decision
unfolding outcome carried_out roll_create
returns-in_err-calendar_named-clause-decision c count l by =
    stops _ c.in_err-calendar_named.field-0.0 c.from_residual.ensures.1 (c.in_err-calendar_named.ensures count l by)

pub returns-in_err-slot_named-clause-decision : goal.returns-in_err-slot_named-clause-decision
unfolding outcome carried_out roll_create
returns-in_err-slot_named-clause-decision c count l by =
    goes _ c.in_ok-calendar_named.field-0 (c.in_ok-calendar_named.ensures count l by) (λ plan calendar.
    stops _ c.in_err-slot_named.field-0.0 c.from_residual-in_err-slot_named.ensures.1 (c.in_err-slot_named.ensures.tried count l by))

pub returns-then-is_some-clause-decision : goal.returns-then-is_some-clause-decision
unfolding outcome carried_out roll_create
returns-then-is_some-clause-decision c count l by =
    goes _ c.in_ok-calendar_named.field-0 (c.in_ok-calendar_named.ensures count l by) (λ plan calendar.
    goes _ c.in_ok-slot_named.field-0 (c.in_ok-slot_named.ensures.tried count l by) (λ container there.
    refuses refusals.NameTaken _ (control_is c.args.defs.now.definitions l c.args.set.now c.kept_by.result by.definitions c.kept_by.ensures.value ∙ sym c.is_some.ensures ∙ c.if-is_some.true)))

pub returns-in_err-key-clause-decision : goal.returns-in_err-key-clause-decision
returns-in_err-key-clause-decision c count l by = no_memory c.in_err-key.field-0.0 c.from_residual-in_err-key.ensures.1

pub returns-clause-decision : goal.returns-clause-decision
unfolding outcome carried_out roll_create
returns-clause-decision c count l by =
    goes _ c.in_ok-calendar_named.field-0 (c.in_ok-calendar_named.ensures count l by) (λ plan calendar.
    goes _ c.in_ok-slot_named.field-0 (c.in_ok-slot_named.ensures.tried count l by) (λ container there.
    passes refusals.NameTaken _ (control_is c.args.defs.now.definitions l c.args.set.now c.kept_by.result by.definitions c.kept_by.ensures.value ∙ sym c.is_some.ensures ∙ c.if-is_some.false)
    (subst (λ (k : List ℕ). IsTried c.new_regular.result (create_regular k c.args.calendar.now c.args.origin c.args.container.now (catalogue_of l)) (λ change answered. DefinesAs AllSeries change.0 change.1 l answered))
    (c.in_ok-key.ensures ∙ ap (control_key c.args.set.now) (c.unsigned_abs.ensures.value ∙ ap unsigned_abs (to_z-of_z w64 c.args.kept c.ranges.kept))) (c.new_regular.ensures.decision count l by))))
