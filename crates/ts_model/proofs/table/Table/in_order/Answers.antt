use Rattle.std.proofs.Common.{◌<◌, get_or, ap, subst, ◌∙◌}
use Rattle.std.specs.FinMap.{values}
use Rattle.ts_model.specs.Definitions.{at_slot, name_of, slots_by_name, IsTable}
use Rattle.ts_model.specs.Table.{Slots}
use Rattle.ts_model.proofs.TableLemmas.{padded-index, padded-table, order-filled, order-within}
use Rattle.std.specs.Option.{IsSome}
use Rattle.ts_model.proofs.table.Table.in_order.Goals as goal

pub returns-clause-value : goal.returns-clause-value
returns-clause-value c =
    c.as_slice.ensures.value ∙ c.self.invariant.kept.index ∙ padded-index c.self.inside.count c.self.inside.slots.items
    ∙ ap (λ (t : Slots). values (slots_by_name t.slots)) c.self.view_is

pub returns-clause-rules : goal.returns-clause-rules
returns-clause-rules c =
    subst (λ (t : Slots). IsTable name_of t.count t.slots) c.self.view_is (padded-table c.self.inside.count c.self.inside.slots.items c.self.invariant.kept.size c.self.invariant.kept.apart)

pub returns-clause-filled : goal.returns-clause-filled
returns-clause-filled c = λ k within.
    let same = c.as_slice.ensures.value ∙ c.self.invariant.kept.index in
    subst (λ (t : Slots). IsSome (at_slot (get_or c.as_slice.result.now k 0) t.slots)) c.self.view_is
    (order-filled c.self.inside.count c.self.inside.slots.items c.as_slice.result.now k same within)

pub returns-clause-within : goal.returns-clause-within
returns-clause-within c = λ k within.
    let same = c.as_slice.ensures.value ∙ c.self.invariant.kept.index in
    subst (λ (t : Slots). get_or c.as_slice.result.now k 0 < t.count) c.self.view_is
    (order-within c.self.inside.count c.self.inside.slots.items c.as_slice.result.now k c.self.invariant.kept.size same within)
