use Rattle.std.proofs.Common.{true, false, List, ℕ, ℤ, pos, fold, length, sym, ap, ◌∙◌, arith}
use Rattle.ts_row.specs.declared.value.Value.{Value}
use Rattle.ts_expr.specs.declared.tally.Tally.{Tally}
use Rattle.ts_expr.specs.declared.tally.Tally.TheVariants as tally
use Rattle.ts_expr.specs.Running.{with_value, with_sums}
use Rattle.ts_aggregate.specs.Column.{found, read_values, better}
use Rattle.ts_aggregate.proofs.ColumnLemmas.{count_all, sums_all, means_all, least_all, greatest_all, first_all, last_all, text_total, all_texts}
use Rattle.ts_aggregate.proofs.column.take_texts.Goals as goal

pub returns-in-Count-clause-value : goal.returns-in-Count-clause-value
returns-in-Count-clause-value c = λ few.
    let cells = c.args.cells in
    let values : List Value = read_values c.args.kind cells in
    c.add.ensures.value (omega (arith, few, c.count_values.ensures))
    ∙ ap (λ (n : ℕ). with_sums c.args.tally.now n (pos 0)) c.count_values.ensures
    ∙ ap (λ (t : Tally). with_sums t (length (found cells)) (pos 0)) c.in-Count.is
    ∙ count_all c.in-Count.field-0 c.args.kind (found cells) (pos 0)
    ∙ ap (λ (t : Tally). fold with_value t values) (sym c.in-Count.is)

pub returns-in-Sum-clause-value : goal.returns-in-Sum-clause-value
returns-in-Sum-clause-value c = λ few.
    let cells = c.args.cells in
    let values : List Value = read_values c.args.kind cells in
    c.add-in-Sum.ensures.value (omega (arith, few, c.count_values-in-Sum.ensures))
    ∙ ap (λ (n : ℕ). with_sums c.args.tally.now n (pos 0)) c.count_values-in-Sum.ensures
    ∙ ap (λ (t : Tally). with_sums t (length (found cells)) (pos 0)) c.in-Sum.is
    ∙ ap (λ (z : ℤ). with_sums (tally.Sum c.in-Sum.field-0) (length (found cells)) z) (sym (text_total c.args.kind c.requires.texts (found cells)))
    ∙ sums_all c.in-Sum.field-0 c.args.kind (found cells)
    ∙ ap (λ (t : Tally). fold with_value t values) (sym c.in-Sum.is)

pub returns-in-Avg-clause-value : goal.returns-in-Avg-clause-value
returns-in-Avg-clause-value c = λ few.
    let cells = c.args.cells in
    let values : List Value = read_values c.args.kind cells in
    c.add-in-Avg.ensures.value (omega (arith, few, c.count_values-in-Avg.ensures))
    ∙ ap (λ (n : ℕ). with_sums c.args.tally.now n (pos 0)) c.count_values-in-Avg.ensures
    ∙ ap (λ (t : Tally). with_sums t (length (found cells)) (pos 0)) c.in-Avg.is
    ∙ ap (λ (z : ℤ). with_sums (tally.Avg c.in-Avg.field-0) (length (found cells)) z) (sym (text_total c.args.kind c.requires.texts (found cells)))
    ∙ means_all c.in-Avg.field-0 c.args.kind (found cells)
    ∙ ap (λ (t : Tally). fold with_value t values) (sym c.in-Avg.is)

pub returns-in_ok-keep_best_text-in-Min-clause-value : goal.returns-in_ok-keep_best_text-in-Min-clause-value
returns-in_ok-keep_best_text-in-Min-clause-value c = λ few.
    let values : List Value = read_values c.args.kind c.args.cells in
    ap (λ (v : Value). tally.Min v)
    (c.in_ok-keep_best_text-in-Min.ensures ∙ ap (fold (better false) c.in-Min.kept) (sym (all_texts c.args.kind c.requires.texts (found c.args.cells))))
    ∙ least_all c.in-Min.kept values ∙ ap (λ (t : Tally). fold with_value t values) (sym c.in-Min.is)

pub returns-in_ok-keep_best_text-in-Max-clause-value : goal.returns-in_ok-keep_best_text-in-Max-clause-value
returns-in_ok-keep_best_text-in-Max-clause-value c = λ few.
    let values : List Value = read_values c.args.kind c.args.cells in
    ap (λ (v : Value). tally.Max v)
    (c.in_ok-keep_best_text-in-Max.ensures ∙ ap (fold (better true) c.in-Max.kept) (sym (all_texts c.args.kind c.requires.texts (found c.args.cells))))
    ∙ greatest_all c.in-Max.kept values ∙ ap (λ (t : Tally). fold with_value t values) (sym c.in-Max.is)

pub returns-in_ok-keep_first-in-First-clause-value : goal.returns-in_ok-keep_first-in-First-clause-value
returns-in_ok-keep_first-in-First-clause-value c = λ few.
    let values : List Value = read_values c.args.kind c.args.cells in
    ap (λ (v : Value). tally.First v) c.in_ok-keep_first-in-First.ensures ∙ first_all c.in-First.kept values
    ∙ ap (λ (t : Tally). fold with_value t values) (sym c.in-First.is)

pub returns-in_ok-keep_last-in-Last-clause-value : goal.returns-in_ok-keep_last-in-Last-clause-value
returns-in_ok-keep_last-in-Last-clause-value c = λ few.
    let values : List Value = read_values c.args.kind c.args.cells in
    ap (λ (v : Value). tally.Last v) c.in_ok-keep_last-in-Last.ensures ∙ last_all c.in-Last.kept values
    ∙ ap (λ (t : Tally). fold with_value t values) (sym c.in-Last.is)
