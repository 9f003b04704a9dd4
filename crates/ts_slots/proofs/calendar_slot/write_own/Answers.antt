use Rattle.std.proofs.Common.{◌≡◌, ◌-◌, [], ◌∷◌, length, take, drop, set, length-take, length-drop, length-set, sym, ap, ◌∙◌, arith, ℕ}
use Rattle.ts_layout.specs.Slot.{padded, plan_bytes}
use Rattle.ts_slots.proofs.PartLemmas.{behind_two, padded-append}
use Rattle.ts_slots.proofs.calendar_slot.write_own.Goals as goal

pub returns : goal.returns
returns c =
    let into = c.args.into.now in
    let left : length (take (length (set (set into 0 1) 1 0) - 2) (drop 2 (set (set into 0 1) 1 0))) ≡ 4044 = simp (length-take, length-drop, length-set) (omega arith) in
    behind_two 1 0 into c.write_plan.new.into (padded 4044 (plan_bytes c.args.pattern.now)) (c.write_plan.ensures ∙ ap (λ (n : ℕ). padded n (plan_bytes c.args.pattern.now)) left) c.write_plan.auto.into (omega arith)
    ∙ sym (padded-append 4046 (1 ∷ 0 ∷ []) (plan_bytes c.args.pattern.now))
