use Rattle.std.proofs.Common.{◌≡◌, List, Option, Some, map, ap, sym, ◌∙◌}
use Rattle.std.specs.Prelude.{ℤ}
use Rattle.std.proofs.lemmas.Result.{err_from_is_err_and}
use Rattle.ts_row.specs.Row.{Values, visible}
use Rattle.ts_running.specs.Binding.{numbers_of, value_if_any, applied}
use Rattle.ts_running.proofs.ApplyLemmas.{fails_applies}
use Rattle.ts_running.proofs.bind.BoundExpr.apply.Goals as goal

pub returns-in_err-apply_to : goal.returns-in_err-apply_to
returns-in_err-apply_to c =
    let p = err_from_is_err_and c.from_residual-in_err-apply_to.result c.from_residual-in_err-apply_to.ensures.1 in
    let values = c.args.elem.now.row.values in
    let same : c.as_slice.result.now ≡ numbers_of values = c.as_slice.ensures.value ∙ c.in_ok-numbers.ensures ∙ ap numbers_of c.values.ensures in
    rw (p.1, p.2) (fails_applies (applied c.args.self.now values) c.in_err-apply_to.field-0.0 (c.in_err-apply_to.ensures values same))

pub returns : goal.returns
returns c =
    let values = c.args.elem.now.row.values in
    let same : c.as_slice.result.now ≡ numbers_of values = c.as_slice.ensures.value ∙ c.in_ok-numbers.ensures ∙ ap numbers_of c.values.ensures in
    c.in_ok-apply_to.ensures values same
    ∙ ap (λ (l : List (Option ℤ)). Some (visible (map value_if_any l))) (sym c.numbers.ensures)
    ∙ ap (λ (l : Values). Some (visible l)) (sym c.in_ok-values.ensures) ∙ ap Some (sym c.of.ensures)
