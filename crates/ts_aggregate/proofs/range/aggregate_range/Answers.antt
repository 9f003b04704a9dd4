use Rattle.std.proofs.Common.{◌≡◌, ◌≤◌, ℤ, List, [], length, map, ap, ◌∙◌, arith}
use Rattle.std.proofs.lemmas.List.{length-map}
use Rattle.ts_row.specs.Row.{Row, Element}
use Rattle.ts_sheets.specs.Stamped.{is_within, within_range}
use Rattle.ts_expr.specs.Aggregates.{Binding, folded_row}
use Rattle.ts_aggregate.specs.Fold.{most_folded}
use Rattle.ts_aggregate.proofs.ToldLemmas.{count_told, few_kept}
use Rattle.ts_aggregate.proofs.range.aggregate_range.Goals as goal

pub returns-clause-folds : goal.returns-clause-folds
returns-clause-folds g c = λ told es have.
    let from : ℤ = c.args.from in
    let to : ℤ = c.args.to in
    let rows : List Row = map (λ (e : Element). e.1) (within_range from to es) in
    let took = c.in_ok-rows.ensures.read told es have in
    let fold = c.in_ok-finish.ensures in
    let same : length rows ≡ length (within_range from to es) = length-map (within_range from to es) (λ (e : Element). e.1) in
    let all = count_told c.args.shape.now _ _ _ _ es have in
    let few : length rows ≤ most_folded = omega (arith, same, few_kept (is_within from to) es, all, c.requires.countable) in
    record {
      same = fold.same ∙ took.same;
      none = fold.none;
      made = λ own empty.
          fold.made rows (took.taken own [] (omega (arith, few)) empty) few ∙ ap (λ (b : Binding). folded_row b.items rows) took.same;
    }
