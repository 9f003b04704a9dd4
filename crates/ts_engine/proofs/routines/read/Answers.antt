use Rattle.std.proofs.Common.{ℤ, w64, ap, subst, arith}
use Rattle.std.proofs.lemmas.Int.{ints, to_z-of_z, fits_signed_from_abs}
use Rattle.ts_command.specs.declared.command.Command.TheVariants.{GetNthElem, ClipCount}
use Rattle.ts_command.specs.Form.{HasForm}
use Rattle.ts_answer.specs.CarriedOut.{ReadOut}
use Rattle.ts_answer.specs.View.{view}
use Rattle.ts_hidden.specs.Hidden.{counted_by}
use Rattle.ts_engine.proofs.DecidedLemmas.{read_case, small_number}
use Rattle.ts_engine.proofs.routines.read.Goals as goal

pub returns-in-GetNthElem-clause-read : goal.returns-in-GetNthElem-clause-read
returns-in-GetNthElem-clause-read g c =
    let at = c.in-GetNthElem in
    let form = subst HasForm at.is c.requires.form in
    let index = to_z-of_z w64 at.index (fits_signed_from_abs w64 at.index (small_number 4294967295 at.index (omega arith) (omega (arith, ints, form.1)) form.2)) in
    let tells = g.P.Pages.tells in
    let x = view c.args.defs.now.definitions c.args.space.now (g.P.Pages.contents c.args.pages.now) in
    let w = g.P.Pages.contents c.read_entries-came.new.pages in
    let result = c.read_entries-came.result in
    let out = c.read_entries-came.new.out in
    read_case tells c.args.command.now _ result out x w at.is (subst (λ (n : ℤ). ReadOut tells (GetNthElem at.key n) result out x w) index c.read_entries-came.ensures.read)

pub returns-in-ClipCount-clause-read : goal.returns-in-ClipCount-clause-read
returns-in-ClipCount-clause-read g c =
    let at = c.in-ClipCount in
    let form = subst HasForm at.is c.requires.form in
    let count = to_z-of_z w64 at.count (fits_signed_from_abs w64 at.count (small_number 1000000 at.count (omega arith) form.1 form.2)) in
    let tells = g.P.Pages.tells in
    let x = view c.args.defs.now.definitions c.args.space.now (g.P.Pages.contents c.args.pages.now) in
    let w = g.P.Pages.contents c.read_entries-came-in-ClipCount.new.pages in
    let result = c.read_entries-came-in-ClipCount.result in
    let out = c.read_entries-came-in-ClipCount.new.out in
    read_case tells c.args.command.now _ result out x w at.is (subst (λ (n : ℤ). ReadOut tells (ClipCount at.key at.stamp n) result out x w) count c.read_entries-came-in-ClipCount.ensures.read)

pub clip_set-came-requires-clause-set : goal.clip_set-came-requires-clause-set
clip_set-came-requires-clause-set g c = subst HasForm c.in-RollingClip.is c.requires.form

pub read_entries-came-requires-clause-shown : goal.read_entries-came-requires-clause-shown
read_entries-came-requires-clause-shown g c = c.requires.shown c.in-GetNthElem.key (ap counted_by c.in-GetNthElem.is)

pub count_clip-came-requires-clause-shown : goal.count_clip-came-requires-clause-shown
count_clip-came-requires-clause-shown g c = c.requires.shown c.in-ClipGetCount.key (ap counted_by c.in-ClipGetCount.is)
