use Rattle.std.proofs.Common.{◌≡◌, ◌==◌, ◌&&◌, false, not, length, sym, ap, ◌∙◌}
use Rattle.ts_rolling.specs.Sets.{greatest, is_old}
use Rattle.ts_rolling.proofs.PlanLemmas.{gone_is}
use Rattle.ts_rolling.proofs.plan.is_gone.Goals as goal

pub returns-then-not-is_empty : goal.returns-then-not-is_empty
returns-then-not-is_empty c =
    let live = c.args.live.now in
    let some : (length live == 0) ≡ false = sym c.is_empty.ensures ∙ c.if-not-is_empty.true in
    c.is_old.ensures ∙ ap (λ m. is_old c.args.n m c.args.window) c.newest_of.ensures
    ∙ sym (ap (λ b. not b && is_old c.args.n (greatest live) c.args.window) some) ∙ gone_is c.args.n live c.args.window
