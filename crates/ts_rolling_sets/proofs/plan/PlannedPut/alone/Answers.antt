use Rattle.std.proofs.Common.{◌≡◌, ◌==◌, ℕ, length, true, sym, subst, ◌∙◌, arith}
use Rattle.ts_rolling_sets.proofs.NearLemmas.{none_go}
use Rattle.ts_rolling_sets.proofs.plan.PlannedPut.alone.Goals as goal

pub returns-then-is_empty-clause-none : goal.returns-then-is_empty-clause-none
returns-then-is_empty-clause-none c some =
    let purge = c.args.self.now.plan.purge in
    let many : purge.len ≡ length purge.items = omega (arith, purge.ok.0) in
    none_go purge.items (subst (λ (n : ℕ). (n == 0) ≡ true) many (sym c.is_empty.ensures ∙ c.if-is_empty.true))
