use Rattle.std.proofs.Common.{ℤ, w64, subst, arith}
use Rattle.std.proofs.lemmas.Int.{to_z-of_z, fits_signed_from_abs}
use Rattle.ts_command.specs.declared.command.Command.TheVariants.{Lag}
use Rattle.ts_command.specs.Form.{HasForm}
use Rattle.ts_answer.specs.CarriedOut.{ReadOut}
use Rattle.ts_answer.specs.View.{view}
use Rattle.ts_engine.proofs.DecidedLemmas.{read_case, small_number}
use Rattle.ts_engine.proofs.routines.combine.Goals as goal

pub returns-in-Lag-clause-read : goal.returns-in-Lag-clause-read
returns-in-Lag-clause-read g c =
    let at = c.in-Lag in
    let form = subst HasForm at.is c.requires.form in
    let by = to_z-of_z w64 at.by (fits_signed_from_abs w64 at.by (small_number 2147483647 at.by (omega arith) form.1 form.2)) in
    let tells = g.P.Pages.tells in
    let x = view c.args.defs.now.definitions c.args.space.now (g.P.Pages.contents c.args.pages.now) in
    let w = g.P.Pages.contents c.lag-came.new.pages in
    let result = c.lag-came.result in
    let out = c.lag-came.new.out in
    read_case tells c.args.command.now _ result out x w at.is (subst (λ (n : ℤ). ReadOut tells (Lag at.key n) result out x w) by c.lag-came.ensures.read)
