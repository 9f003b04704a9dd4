use Rattle.std.proofs.Common.{◌≡◌, ◌*◌, ◌≤◌, ℕ, List, ◌∷◌, length, ap, ◌∙◌, arith}
use Rattle.std.specs.Int.{w32, to_be_bytes}
use Rattle.ts_pattern.specs.declared.run.Run.{Run}
use Rattle.ts_layout.specs.Slot.{run_bytes}
use Rattle.ts_slots.proofs.PartLemmas.{one_more}
use Rattle.ts_slots.proofs.plan.+write_runs.Goals as goal

-- there is room for the first
room : (runs rs : List Run) (r : Run) (n : ℕ) → runs ≡ r ∷ rs → 4 * length runs ≤ n → 4 ≤ n
room runs rs r n split all = omega (arith, ap length split)

pub returns : goal.returns
returns t c =
    one_more run_bytes 4 c.in-Some.run'.now c.args.runs.now c.in-Some.runs.now c.args.into.now c.copy_from_slice.new.self c.write_runs.new.into
    c.in-Some.ensures.cases.0 (c.copy_from_slice.ensures.after ∙ c.to_be_bytes.ensures ∙ ap (to_be_bytes w32) c.number_of.ensures) c.copy_from_slice.auto.self
    c.write_runs.ensures c.write_runs.auto.into
    (room c.args.runs.now c.in-Some.runs.now c.in-Some.run'.now (length c.args.into.now) c.in-Some.ensures.cases.0 c.requires.room)
