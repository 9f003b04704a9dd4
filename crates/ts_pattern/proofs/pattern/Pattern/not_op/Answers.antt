use Rattle.std.proofs.Common.{◌≡◌, ◌∙◌, sym, ap, map}
use Rattle.ts_pattern.specs.Patterns.{Plan, total, is_pattern, turned, flag}
use Rattle.ts_pattern.proofs.TurnLemmas.{total-turned, is_pattern-turned}
use Rattle.ts_pattern.proofs.AlgebraLemmas.{flag-turned}
use Rattle.ts_pattern.proofs.CursorLemmas.{pattern-merged}
use Rattle.ts_pattern.proofs.pattern.Pattern.not_op.Goals as goal

pub invariant_of-result : goal.invariant_of-result
invariant_of-result c =
    let rs = c.self.inside.runs.items in
    let items : c.in_ok-runs.runs.items ≡ map turned rs = c.in_ok-runs.ensures ∙ ap (map turned) c.deref.ensures.value in (
      c.self.invariant.0 ∙ sym (total-turned rs) ∙ ap total (sym items),
      ap is_pattern items ∙ is_pattern-turned rs ∙ c.self.invariant.1,
    )

pub returns-clause-flags : goal.returns-clause-flags
returns-clause-flags c =
    let rs = c.args.self.now.runs in
    let some = (pattern-merged rs (ap is_pattern (ap (λ (p : Plan). p.runs) (sym c.self.view_is)) ∙ c.self.invariant.1)).1 in
    let same : c.deref.result.now ≡ rs = c.deref.ensures.value ∙ ap (λ (p : Plan). p.runs) c.self.view_is in
    let items : c.in_ok-runs.runs.items ≡ map turned rs = c.in_ok-runs.ensures ∙ ap (map turned) same in
    λ k. ap (λ l. flag l k) items ∙ flag-turned rs k some

pub returns-clause-length : goal.returns-clause-length
returns-clause-length c =
    let rs = c.args.self.now.runs in
    let same : c.deref.result.now ≡ rs = c.deref.ensures.value ∙ ap (λ (p : Plan). p.runs) c.self.view_is in
    let items : c.in_ok-runs.runs.items ≡ map turned rs = c.in_ok-runs.ensures ∙ ap (map turned) same in
    ap total items ∙ total-turned rs
