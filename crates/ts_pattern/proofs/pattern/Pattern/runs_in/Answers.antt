use Rattle.std.proofs.Common.{◌≡◌, ◌∙◌, sym, ap, map}
use Rattle.ts_pattern.specs.Patterns.{Plan, total, is_pattern, scaled, factor}
use Rattle.ts_pattern.proofs.AlgebraLemmas.{total-scaled}
use Rattle.ts_pattern.proofs.PlanLemmas.{is_pattern-scaled, factor-positive}
use Rattle.ts_pattern.proofs.pattern.Pattern.runs_in.Goals as goal

pub returns-clause-length : goal.returns-clause-length
returns-clause-length c =
    let plan = c.args.self.now in
    let parts = factor plan.unit c.args.unit in
    let factor_is : c.factor.result ≡ parts = c.factor.ensures.value ∙ ap (λ (p : Plan). factor p.unit c.args.unit) c.self.view_is in
    let same : c.deref.result.now ≡ plan.runs = c.deref.ensures.value ∙ ap (λ (p : Plan). p.runs) c.self.view_is in
    let items : c.in_ok-runs.runs.items ≡ map (scaled parts) plan.runs =
    c.in_ok-runs.ensures ∙ ap (λ n. map (scaled n) c.deref.result.now) factor_is ∙ ap (map (scaled parts)) same in
    ap total items ∙ total-scaled plan.runs parts

pub returns-clause-pattern : goal.returns-clause-pattern
returns-clause-pattern c =
    let plan = c.args.self.now in
    let parts = factor plan.unit c.args.unit in
    let factor_is : c.factor.result ≡ parts = c.factor.ensures.value ∙ ap (λ (p : Plan). factor p.unit c.args.unit) c.self.view_is in
    let same : c.deref.result.now ≡ plan.runs = c.deref.ensures.value ∙ ap (λ (p : Plan). p.runs) c.self.view_is in
    let items : c.in_ok-runs.runs.items ≡ map (scaled parts) plan.runs =
    c.in_ok-runs.ensures ∙ ap (λ n. map (scaled n) c.deref.result.now) factor_is ∙ ap (map (scaled parts)) same in
    let pattern = ap is_pattern (ap (λ (p : Plan). p.runs) (sym c.self.view_is)) ∙ c.self.invariant.1 in
    ap is_pattern items ∙ is_pattern-scaled plan.runs parts (factor-positive plan.unit c.args.unit c.requires.made) c.requires.small pattern
