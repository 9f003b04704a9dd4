use Rattle.std.proofs.Common.{List, [], ◌∷◌, ◌++◌, sym, ap, ◌∙◌, append_assoc}
use Rattle.std.proofs.lemmas.Result.{IfOk-weaker}
use Rattle.ts_row.specs.declared.kind.Column.{Column}
use Rattle.ts_slots.proofs.ParseLemmas.{one, none_some, split}
use Rattle.ts_slots.proofs.row_type_slot.+parse_columns.Goals as goal

pub returns-in_default-clause-found : goal.returns-in_default-clause-found
returns-in_default-clause-found t c = λ cs rest long named is.
    let s = split cs rest c.args.bytes.now c.args.count long c.if-count-eq0.false named is in
    none_some c.in_ok-column.field-0 s.first c.in_default.is (c.in_ok-column.ensures.found s.first s.name (c.split_at.ensures.front ∙ s.front))

pub returns-clause-found : goal.returns-clause-found
returns-clause-found t c =
    IfOk-weaker c.parse_columns.result _ _
    (λ found later cs rest long named is.
    let s = split cs rest c.args.bytes.now c.args.count long c.if-count-eq0.false named is in
    let same = one c.in_ok-column.field-0 _ s.first c.in-Some.is (c.in_ok-column.ensures.found s.first s.name (c.split_at.ensures.front ∙ s.front)) in
    let both = later s.others rest s.fewer s.names (c.split_at.ensures.back ∙ s.behind) in (
      both.0,
      both.1 ∙ ap (λ (l : List Column). l ++ s.others) (c.in_ok-push.ensures.items ∙ ap (λ (x : Column). c.args.columns.now.items ++ x ∷ []) same)
          ∙ append_assoc c.args.columns.now.items (s.first ∷ []) s.others ∙ ap (λ (l : List Column). c.args.columns.now.items ++ l) (sym s.is),
    ))
    c.parse_columns.ensures.found
