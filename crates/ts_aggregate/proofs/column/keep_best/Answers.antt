use Rattle.std.proofs.Common.{ℤ, Option, FitsSigned, sym, subst, ap, ◌∙◌, arith, rules}
use Rattle.std.specs.Prelude.{IfSome}
use Rattle.std.specs.Int.{w128}
use Rattle.std.proofs.lemmas.Int.{to_z-of_z}
use Rattle.ts_row.specs.declared.value.Value.TheVariants.{Number}
use Rattle.ts_aggregate.specs.Column.{better}
use Rattle.ts_aggregate.specs.Totals.{IsBest}
use Rattle.ts_aggregate.proofs.TotalsLemmas.{best_kept, best_told, none_kept}
use Rattle.ts_aggregate.proofs.column.keep_best.Goals as goal

pub returns-then-totals-eq0 : goal.returns-then-totals-eq0
returns-then-totals-eq0 c = λ zs are. none_kept c.args.most c.args.kept.now zs (omega (arith, are.count, c.if-totals-eq0.true))

pub returns : goal.returns
returns c = λ zs are.
    let z : ℤ = c.in-Some.best in
    let best : IsBest c.args.most zs z = subst (λ (o : Option ℤ). IfSome o (IsBest c.args.most zs)) (sym c.best_of.ensures ∙ c.in-Some.is)
    (best_told c.args.most zs c.args.totals.now are) in
    let fits : FitsSigned w128 z = search rules in
    c.keep_number.ensures ∙ ap (λ (x : ℤ). better c.args.most c.args.kept.now (Number x)) (to_z-of_z w128 z fits)
    ∙ best_kept c.args.most c.args.kept.now zs z (λ none. let some = c.if-totals-eq0.false in omega (arith, are.count, none, some)) best
