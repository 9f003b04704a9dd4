use Rattle.std.proofs.Common.{sym, subst, ◌∙◌, ℕ, ◌≤◌}
use Rattle.ts_elements.specs.Elements.{IsCharged}
use Rattle.ts_elements.proofs.room.charge_of.Goals as goal

pub returns-clause-value : goal.returns-clause-value
unfolding IsCharged
returns-clause-value c = c.of.ensures.ok ∙ c.requires.charged.0 c.args.container c.requires.slot

pub returns-clause-bound : goal.returns-clause-bound
unfolding IsCharged
returns-clause-bound c = subst (λ (n : ℕ). n ≤ 65536) (sym (c.of.ensures.ok ∙ c.requires.charged.0 c.args.container c.requires.slot)) (c.requires.charged.1 c.args.container c.requires.slot)
