use Rattle.std.proofs.Common.{List, ℕ, ℤ, pos, ◌+ℤ◌, fold, map, length, FitsSigned, sym, ap, ◌∙◌, arith, rules}
use Rattle.std.specs.Int.{w128}
use Rattle.std.proofs.lemmas.Int.{to_z-of_z}
use Rattle.ts_row.specs.declared.value.Value.{Value}
use Rattle.ts_row.specs.declared.value.Value.TheVariants.{Number}
use Rattle.ts_expr.specs.declared.tally.Tally.{Tally}
use Rattle.ts_expr.specs.declared.tally.Tally.TheVariants as tally
use Rattle.ts_expr.specs.Running.{with_value, with_sums}
use Rattle.ts_aggregate.proofs.ColumnLemmas.{numbers_counted, numbers_summed, numbers_meant, least_all, greatest_all}
use Rattle.ts_aggregate.proofs.column.take_totals.Goals as goal

pub returns-in-Count-clause-value : goal.returns-in-Count-clause-value
returns-in-Count-clause-value c = λ zs are few.
    let totals = c.args.totals.now in
    let fits : FitsSigned w128 totals.sum = search rules in
    let same = to_z-of_z w128 totals.sum fits in
    c.add.ensures.value (omega (arith, few, are.count))
    ∙ ap (with_sums c.args.tally.now totals.count) same
    ∙ ap (λ (n : ℕ). with_sums c.args.tally.now n totals.sum) are.count
    ∙ ap (λ (t : Tally). with_sums t (length zs) totals.sum) c.in-Count.is
    ∙ numbers_counted c.in-Count.field-0 zs totals.sum
    ∙ ap (λ (t : Tally). fold with_value t (map (λ z. Number z) zs)) (sym c.in-Count.is)

pub returns-in-Sum-clause-value : goal.returns-in-Sum-clause-value
returns-in-Sum-clause-value c = λ zs are few.
    let totals = c.args.totals.now in
    let fits : FitsSigned w128 totals.sum = search rules in
    let same = to_z-of_z w128 totals.sum fits in
    c.add-in-Sum.ensures.value (omega (arith, few, are.count))
    ∙ ap (with_sums c.args.tally.now totals.count) same
    ∙ ap (λ (n : ℕ). with_sums c.args.tally.now n totals.sum) are.count
    ∙ ap (λ (z : ℤ). with_sums c.args.tally.now (length zs) z) are.sum
    ∙ ap (λ (t : Tally). with_sums t (length zs) (fold ◌+ℤ◌ (pos 0) zs)) c.in-Sum.is
    ∙ numbers_summed c.in-Sum.field-0 zs
    ∙ ap (λ (t : Tally). fold with_value t (map (λ z. Number z) zs)) (sym c.in-Sum.is)

pub returns-in-Avg-clause-value : goal.returns-in-Avg-clause-value
returns-in-Avg-clause-value c = λ zs are few.
    let totals = c.args.totals.now in
    let fits : FitsSigned w128 totals.sum = search rules in
    let same = to_z-of_z w128 totals.sum fits in
    c.add-in-Avg.ensures.value (omega (arith, few, are.count))
    ∙ ap (with_sums c.args.tally.now totals.count) same
    ∙ ap (λ (n : ℕ). with_sums c.args.tally.now n totals.sum) are.count
    ∙ ap (λ (z : ℤ). with_sums c.args.tally.now (length zs) z) are.sum
    ∙ ap (λ (t : Tally). with_sums t (length zs) (fold ◌+ℤ◌ (pos 0) zs)) c.in-Avg.is
    ∙ numbers_meant c.in-Avg.field-0 zs
    ∙ ap (λ (t : Tally). fold with_value t (map (λ z. Number z) zs)) (sym c.in-Avg.is)

pub returns-in-Min-clause-value : goal.returns-in-Min-clause-value
returns-in-Min-clause-value c = λ zs are few.
    let values : List Value = map (λ z. Number z) zs in
    ap (λ (v : Value). tally.Min v) (c.keep_least.ensures zs are) ∙ least_all c.in-Min.kept values
    ∙ ap (λ (t : Tally). fold with_value t values) (sym c.in-Min.is)

pub returns-in-Max-clause-value : goal.returns-in-Max-clause-value
returns-in-Max-clause-value c = λ zs are few.
    let values : List Value = map (λ z. Number z) zs in
    ap (λ (v : Value). tally.Max v) (c.keep_greatest.ensures zs are) ∙ greatest_all c.in-Max.kept values
    ∙ ap (λ (t : Tally). fold with_value t values) (sym c.in-Max.is)
