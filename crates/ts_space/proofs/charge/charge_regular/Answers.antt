use Rattle.std.proofs.Common.{◌≡◌, ℕ, suc, ◌+◌, ◌/◌, add-one, arith, ap, sym, ◌∙◌, get_or}
use Rattle.ts_space.proofs.ChargeLemmas.{last_page, same_option, other_option, charge_same, charge_new}
use Rattle.ts_space.proofs.charge.charge_regular.Goals.{then-ne, else-ne}
use Rattle.ts_space.proofs.charge.charge_regular.Goals as goal

pub loop-offset-preserved : goal.loop-offset-preserved
loop-offset-preserved c =
    let offsets = c.args.offsets.now in
    let i = c.loop-offset.offset-index in
    let page = get_or offsets i 0 / c.args.r in
    let next : last_page c.args.r (i + 1) offsets ≡ last_page c.args.r (suc i) offsets = ap (λ (n : ℕ). last_page c.args.r n offsets) (add-one i) in
    let before = c.loop-offset.invariant in
    elim c.if-ne.branch [
      | then-ne w ↦
          let other = other_option c.loop-offset.last page (sym c.ne.ensures ∙ w.if-ne.true) in
          let new = charge_new offsets c.args.r i c.requires.span c.requires.rising c.loop-offset-test.true (λ e. other (before.last ∙ e)) in
          record { charge = w.charge-is ∙ ap (λ n. n + 1) before.charge ∙ sym new; last = w.last-is ∙ sym next; few = let now = w.charge-is in let few = before.few in omega (arith, now, few) }
      | else-ne w ↦
          let same = same_option c.loop-offset.last page (sym c.ne.ensures ∙ w.if-ne.false) in
          let kept = charge_same offsets c.args.r i c.loop-offset-test.true (sym before.last ∙ same) in
          record { charge = w.charge-is ∙ before.charge ∙ sym kept; last = w.last-is ∙ sym next; few = let now = w.charge-is in let few = before.few in omega (arith, now, few) }
    ]
