-- Rows that are taken one after the other.
use Rattle.std.specs.Prelude.{List, [], ◌++◌, map, refl}
use Rattle.std.proofs.Common.{append_assoc, sym, ap, subst, ◌∙◌}
use Rattle.std.proofs.lemmas.List.{append-nil, map-append}
use Rattle.ts_row.specs.declared.kind.Column.{Column}
use Rattle.ts_row.specs.Row.{Row, Element}
use Rattle.ts_expr.specs.Aggregates.{Binding}
use Rattle.ts_expr.specs.Running.{after}
use Rattle.ts_expr.proofs.CallerLemmas.{few_first, few_behind}
use Rattle.ts_aggregate.specs.Fold.{Fold, most_folded, Takes}

-- no rows are taken
pub none_taken : (columns : List Column) (v : Fold) → Takes columns v [] v
none_taken columns v = record {
  same = refl;
  taken = λ is before few was. was ∙ ap (after v.binding.items) (sym (append-nil before));
}

-- rows, and then others
pub both_taken : (columns : List Column) (a b c : Fold) (rs others : List Row) → Takes columns a rs b
    → Takes columns b others c
    → Takes columns a (rs ++ others) c
both_taken columns a b c rs others p q = record {
  same = q.same ∙ p.same;
  taken = λ is before few was.
      q.taken (is ∙ ap (λ (x : Binding). x.columns) (sym p.same)) (before ++ rs)
      (few_behind before rs others most_folded few)
      (p.taken is before (few_first before rs others most_folded few) was)
      ∙ ap (after c.binding.items) (append_assoc before rs others);
}

-- the same of the rows of elements
pub elements_taken : (columns : List Column) (a b c : Fold) (es others : List Element)
    → Takes columns a (map (λ e. e.1) es) b
    → Takes columns b (map (λ e. e.1) others) c → Takes columns a (map (λ e. e.1) (es ++ others)) c
elements_taken columns a b c es others p q = subst (λ (l : List Row). Takes columns a l c)
    (sym (map-append (λ (e : Element). e.1) es others))
    (both_taken columns a b c (map (λ e. e.1) es) (map (λ e. e.1) others) p q)
