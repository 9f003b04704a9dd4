use Rattle.std.proofs.Common.{inl, sym, ◌∙◌}
use Rattle.ts_model.specs.Definitions.{slot_of, slots}
use Rattle.ts_page_vectors.proofs.definitions.put.Goals as goal

pub set-requires-clause-name : goal.set-requires-clause-name
set-requires-clause-name c =
    inl (
    (λ i. slot_of (sym c.name.ensures i) (slots c.kind-kind.result (c.reserve.ensures.others i)))
    ∙ sym c.find.ensures.value ∙ c.in-None.is)
