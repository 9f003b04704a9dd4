use Rattle.std.proofs.Common.{ℕ, ◌-◌, ◌++◌, [], ◌∷◌, List, length, sym, ap, ◌∙◌, arith}
use Rattle.std.specs.List.{flat_map}
use Rattle.std.specs.Int.{w16, to_be_bytes}
use Rattle.ts_pattern.specs.declared.run.Run.{Run}
use Rattle.ts_layout.specs.Slot.{padded, unit_code, run_bytes}
use Rattle.ts_slots.proofs.PartLemmas.{behind_padded, padded-append}
use Rattle.ts_slots.proofs.plan.write_plan.Goals as goal

-- the number of runs and these
counted : List Run → List ℕ
counted runs = to_be_bytes w16 (length runs) ++ flat_map run_bytes runs

pub returns : goal.returns
unfolding counted
returns c =
    let into = c.args.into.now in
    behind_padded c.unit_code.result (length into - 1) into c.write_counted.new.into _ (counted c.args.pattern.now.runs)
    c.write_counted.ensures (ap counted c.runs.ensures.runs) c.write_counted.auto.into (omega arith)
    ∙ sym (padded-append (length into) (c.unit_code.result ∷ []) (counted c.args.pattern.now.runs))
    ∙ ap (λ (n : ℕ). padded (length into) (n ∷ counted c.args.pattern.now.runs)) (c.unit_code.ensures ∙ ap unit_code c.unit.ensures)
