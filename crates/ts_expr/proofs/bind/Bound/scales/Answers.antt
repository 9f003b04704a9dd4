use Rattle.std.proofs.Common.{◌≤◌, All, List, ℕ, sym, subst, ◌∙◌}
use Rattle.ts_expr.specs.Aggregates.{most_scale}
use Rattle.std.proofs.lemmas.List.Elements.{All-map}
use Rattle.ts_expr.proofs.bind.Bound.scales.Goals as goal

pub returns-clause-most : goal.returns-clause-most
returns-clause-most c =
    subst (λ (l : List ℕ). All (λ s. s ≤ most_scale) l) (sym (c.as_slice.ensures.value ∙ c.self.invariant.1)) (All-map (λ (s : ℕ). s ≤ most_scale) (λ i. i.scale) c.self.inside.items.items c.self.invariant.0.scales)
