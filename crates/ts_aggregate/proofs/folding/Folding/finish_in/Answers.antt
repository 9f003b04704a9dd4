use Rattle.std.proofs.Common.{map, ap, ◌∙◌}
use Rattle.ts_row.specs.Row.{visible}
use Rattle.ts_expr.specs.Running.{value_of}
use Rattle.ts_expr.proofs.FoldLemmas.{folded_after}
use Rattle.ts_aggregate.specs.Fold.{Fold}
use Rattle.ts_aggregate.proofs.folding.Folding.finish_in.Goals as goal

pub returns-clause-made : goal.returns-clause-made
returns-clause-made c = λ rows taken few.
    ap visible (c.in_ok-renew_all.ensures.value
    ∙ ap (map value_of) (c.deref_mut.ensures.value ∙ ap (λ (f : Fold). f.tallies) c.self.view_is ∙ taken)
    ∙ folded_after c.args.self.now.binding.items rows)
