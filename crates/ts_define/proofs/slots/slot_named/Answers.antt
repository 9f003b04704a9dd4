use Rattle.std.proofs.Common.{ℕ, List, subst}
use Rattle.ts_layout.specs.Meaning.{catalogue_of}
use Rattle.ts_answer.specs.Answer.{wanted}
use Rattle.ts_model.specs.Catalogue.{named}
use Rattle.ts_answer.specs.Slots.{Stands}
use Rattle.ts_answer.specs.Tried.{IsTried}
use Rattle.ts_define.proofs.slots.slot_named.Goals as goal

pub returns-clause-tried : goal.returns-clause-tried
returns-clause-tried c count l by =
    subst (λ (n : List ℕ). IsTried c.filled_slot.result (wanted n (named c.args.kind (catalogue_of l))) (Stands c.args.kind n l)) c.as_slice.ensures.value (c.filled_slot.ensures.tried count l by)
