use Rattle.std.proofs.Common.{List, ℕ, not, sym, ap, ◌∙◌}
use Rattle.ts_model.specs.Definitions.{slot_of, slots}
use Rattle.ts_model.specs.declared.kind.Kind.TheVariants as kinds
use Rattle.ts_hidden.proofs.CoverLemmas.{nowhere, none_is}
use Rattle.ts_hidden.proofs.marks.Marks.mark_named.Goals as goal

pub returns-then-is_none-clause-marked : goal.returns-then-is_none-clause-marked
returns-then-is_none-clause-marked c none =
    let d = c.args.defs.now.definitions in
    nowhere c.names_stand_in_slots.ensures c.args.key.now d
    (ap (λ (name : List ℕ). slot_of name (slots kinds.Series d)) (sym c.as_slice.ensures.value) ∙ sym c.find.ensures.value ∙ none_is c.find.result (c.is_none.ensures ∙ ap not c.if-is_none.true))
