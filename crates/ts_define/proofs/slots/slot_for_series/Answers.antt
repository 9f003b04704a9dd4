use Rattle.std.proofs.Common.{ℕ, List, subst}
use Rattle.ts_model.specs.declared.kind.Kind.TheVariants.{Series}
use Rattle.ts_layout.specs.Meaning.{catalogue_of}
use Rattle.ts_answer.specs.Answer.{a_new_name}
use Rattle.ts_answer.specs.Slots.{IsFreeSlot}
use Rattle.ts_answer.specs.Tried.{IsTried}
use Rattle.ts_define.proofs.slots.slot_for_series.Goals as goal

pub returns-clause-tried : goal.returns-clause-tried
returns-clause-tried c count l by =
    subst (λ (n : List ℕ). IsTried c.empty_slot.result (a_new_name Series n (catalogue_of l)) (λ slot room. IsFreeSlot Series slot n l.definitions)) c.as_slice.ensures.value (c.empty_slot.ensures.tried count l by)
