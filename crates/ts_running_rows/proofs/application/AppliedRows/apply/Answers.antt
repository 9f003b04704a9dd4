-- The row of the numbers that were made is handed on.
use Rattle.std.proofs.Common.{◌∙◌, sym, ap, List, Option, Some}
use Rattle.std.specs.Prelude.{ℤ}
use Rattle.std.proofs.lemmas.Result.{on_ok_weaker}
use Rattle.ts_running.specs.Binding.{numbers_row}
use Rattle.ts_running_rows.proofs.MadeLemmas.{applied_handed}
use Rattle.ts_running_rows.proofs.application.AppliedRows.apply.Goals as goal

pub returns-in-Ok-clause-taken : goal.returns-in-Ok-clause-taken
returns-in-Ok-clause-taken g c =
    on_ok_weaker c.numbers-in-Ok.result
    (λ taken row is. applied_handed g.V.NumbersVisitor.took c.args.self.now.exprs.now c.args.stamp row c.numbers.result.now c.args.self.now.overflowed
    c.args.self.now.out.now c.numbers-in-Ok.new.self
    (c.in-Ok.ensures row.values (c.as_slice.ensures.value ∙ is) ∙ ap (λ (l : List (Option ℤ)). Some (numbers_row l)) (sym c.numbers.ensures))
    c.requires taken)
    c.numbers-in-Ok.ensures.took
