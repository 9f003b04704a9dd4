use Rattle.std.proofs.Common.{◌≡◌, not, cond, Ok, Err, sym, ap, ◌∙◌}
use Rattle.std.specs.Prelude.{filter, nat_eq}
use Rattle.std.specs.List.{list_any}
use Rattle.ts_base.specs.declared.refusal.Refusal.TheVariants.{WindowGone}
use Rattle.ts_rolling.specs.Sets.{a_plan, later, greatest, is_old, going, plan_for}
use Rattle.ts_rolling.proofs.plan.plan_for.Goals as goal

pub returns-then-is_gone-clause-cause : goal.returns-then-is_gone-clause-cause
unfolding plan_for
returns-then-is_gone-clause-cause c =
    let n = c.args.n in
    let live = c.args.live.now in
    let w = c.args.window in
    ap (λ b. cond b (Err (WindowGone (greatest live))) (Ok (a_plan w (not (list_any (λ k. nat_eq k w) live)) (going n live w)))) (sym c.is_gone.ensures ∙ c.if-is_gone.true)
    ∙ ap (λ m. Err (WindowGone m)) (sym c.newest_of-newest.ensures)

pub returns-clause-ok : goal.returns-clause-ok
unfolding plan_for
returns-clause-ok c =
    let n = c.args.n in
    let live = c.args.live.now in
    let w = c.args.window in
    let top : c.later.result ≡ later (greatest live) w = c.later.ensures ∙ ap (λ m. later m w) c.newest_of-newest.ensures in
    let purge : c.in_ok-purge.purge.items ≡ going n live w = c.in_ok-purge.ensures ∙ ap (λ m. filter (is_old n m) live) top in
    ap (λ b. cond b (Err (WindowGone (greatest live))) (Ok (a_plan w (not (list_any (λ k. nat_eq k w) live)) (going n live w)))) (sym c.is_gone.ensures ∙ c.if-is_gone.false)
    ∙ (λ i. Ok (a_plan w (not (sym c.contains-attach.ensures.value i)) (sym purge i)))
