use Rattle.std.proofs.Common.{◌≡◌, ◌∙◌, ◌*◌, sym, ap, arith, map, Ok, true, List}
use Rattle.ts_pattern.specs.declared.run.Run.{Run}
use Rattle.ts_pattern.specs.Patterns.{Plan, total, is_pattern, scaled, flag, factor, is_made_of}
use Rattle.ts_pattern.proofs.AlgebraLemmas.{total-scaled, flag-scaled}
use Rattle.ts_pattern.proofs.PlanLemmas.{expanded-is, is_pattern-scaled, tested}
use Rattle.ts_pattern.proofs.pattern.Pattern.expand.Goals as goal

pub invariant_of-result : goal.invariant_of-result
invariant_of-result c =
    let rs = c.self.inside.runs.items in
    let parts = c.factor-parts.result in
    let items : c.in_ok-runs.runs.items ≡ map (scaled parts) rs = c.in_ok-runs.ensures ∙ ap (map (scaled parts)) c.deref.ensures.value in
    let same : total (map (scaled parts) rs) ≡ c.self.inside.length * parts = total-scaled rs parts ∙ ap (λ n. n * parts) (sym c.self.invariant.0) in (
      sym same ∙ ap total (sym items),
      ap is_pattern items ∙ is_pattern-scaled rs parts c.factor-parts.ensures.some (omega (arith, same, total-scaled rs parts)) c.self.invariant.1,
    )

pub returns-clause-answer : goal.returns-clause-answer
returns-clause-answer c =
    let plan = c.args.self.now in
    let u = c.args.unit in
    let parts = factor plan.unit u in
    let factor_is : c.factor-parts.result ≡ parts = c.factor-parts.ensures.value ∙ ap (λ (p : Plan). factor p.unit u) c.self.view_is in
    let same : c.deref.result.now ≡ plan.runs = c.deref.ensures.value ∙ ap (λ (p : Plan). p.runs) c.self.view_is in
    let items : c.in_ok-runs.runs.items ≡ map (scaled parts) plan.runs =
    c.in_ok-runs.ensures ∙ ap (λ n. map (scaled n) c.deref.result.now) factor_is ∙ ap (map (scaled parts)) same in
    let pattern = ap is_pattern (ap (λ (p : Plan). p.runs) (sym c.self.view_is)) ∙ c.self.invariant.1 in
    let made : is_made_of plan.unit u ≡ true =
    sym (ap (λ (p : Plan). is_made_of p.unit u) c.self.view_is) ∙ sym c.is_made_of.ensures ∙ c.if-not-is_made_of.false in
    let long : total plan.runs * parts ≡ c.self.inside.length * c.factor-parts.result =
    ap (λ n. n * parts) (ap (λ (p : Plan). total p.runs) (sym c.self.view_is) ∙ sym c.self.invariant.0)
    ∙ ap (λ n. c.self.inside.length * n) (sym factor_is) in
    expanded-is plan u pattern made (omega (arith, long)) ∙ ap (λ (rs : List Run). Ok (record { unit = u; runs = rs })) (sym items)

pub returns-clause-flags : goal.returns-clause-flags
returns-clause-flags c =
    let plan = c.args.self.now in
    let parts = factor plan.unit c.args.unit in
    let factor_is : c.factor-parts.result ≡ parts = c.factor-parts.ensures.value ∙ ap (λ (p : Plan). factor p.unit c.args.unit) c.self.view_is in
    let same : c.deref.result.now ≡ plan.runs = c.deref.ensures.value ∙ ap (λ (p : Plan). p.runs) c.self.view_is in
    let items : c.in_ok-runs.runs.items ≡ map (scaled parts) plan.runs =
    c.in_ok-runs.ensures ∙ ap (λ n. map (scaled n) c.deref.result.now) factor_is ∙ ap (map (scaled parts)) same in
    let pattern = ap is_pattern (ap (λ (p : Plan). p.runs) (sym c.self.view_is)) ∙ c.self.invariant.1 in
    λ k. ap (λ rs. flag rs k) items ∙ flag-scaled plan.runs parts k (omega (arith, factor_is, c.factor-parts.ensures.some)) (tested plan.runs pattern).long

pub returns-clause-length : goal.returns-clause-length
returns-clause-length c =
    let plan = c.args.self.now in
    let parts = factor plan.unit c.args.unit in
    let factor_is : c.factor-parts.result ≡ parts = c.factor-parts.ensures.value ∙ ap (λ (p : Plan). factor p.unit c.args.unit) c.self.view_is in
    let same : c.deref.result.now ≡ plan.runs = c.deref.ensures.value ∙ ap (λ (p : Plan). p.runs) c.self.view_is in
    let items : c.in_ok-runs.runs.items ≡ map (scaled parts) plan.runs =
    c.in_ok-runs.ensures ∙ ap (λ n. map (scaled n) c.deref.result.now) factor_is ∙ ap (map (scaled parts)) same in
    ap total items ∙ total-scaled plan.runs parts
