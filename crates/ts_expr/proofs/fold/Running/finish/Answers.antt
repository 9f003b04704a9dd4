use Rattle.std.proofs.Common.{◌≤◌, ◌^◌, ◌∙◌, ap, sym, subst, All, List, map}
use Rattle.ts_row.specs.Row.{visible}
use Rattle.ts_expr.specs.declared.tally.Tally.{Tally}
use Rattle.ts_expr.specs.Running.{count_of, value_of}
use Rattle.ts_expr.proofs.FoldLemmas.{after-few, folded_after}
use Rattle.ts_expr.proofs.fold.Running.finish.Goals as goal

pub values_of-requires : goal.values_of-requires
values_of-requires c =
    let items = c.requires.0 in
    let is = c.requires.1 in
    subst (λ (l : List Tally). All (λ t. count_of t ≤ 2 ^ 32) l) (sym (c.self.view_is ∙ is.so_far)) (after-few items is.rows (2 ^ 32) is.few)

pub returns : goal.returns
returns c = λ items rows is. c.of.ensures ∙ ap visible (c.in_ok-values_of.ensures ∙ ap (map value_of) (c.self.view_is ∙ is) ∙ folded_after items rows)
