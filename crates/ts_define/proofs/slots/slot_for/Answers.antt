use Rattle.std.proofs.Common.{ℕ, List, subst}
use Rattle.ts_layout.specs.Meaning.{catalogue_of}
use Rattle.ts_answer.specs.Answer.{a_new_name}
use Rattle.ts_answer.specs.Slots.{IsFreeSlot}
use Rattle.ts_answer.specs.Tried.{IsTried}
use Rattle.ts_define.proofs.slots.slot_for.Goals as goal

pub returns-clause-tried : goal.returns-clause-tried
returns-clause-tried c count l by =
    subst (λ (n : List ℕ). IsTried c.empty_slot.result (a_new_name c.args.kind n (catalogue_of l)) (λ slot room. IsFreeSlot c.args.kind slot n l.definitions)) c.as_slice.ensures.value (c.empty_slot.ensures.tried count l by)
