use Rattle.std.proofs.Common.{◌≡◌, ◌++◌, List, ℕ, Result, Ok, IsTrue, sym, ◌∙◌, ap, subst}
use Rattle.std.specs.Result.{OnOk}
use Rattle.std.specs.declared.alloc.AllocError.{AllocError}
use Rattle.std.proofs.lemmas.Result.{IfOk-weaker}
use Rattle.ts_container.specs.declared.fault.SurveyFault.{SurveyFault}
use Rattle.ts_container.specs.Survey.{IfRefused}
use Rattle.ts_volume.specs.FirstBad.{IsFirstBadOf}
use Rattle.ts_check.specs.declared.verdict.Verdict.{Verdict}
use Rattle.ts_check.specs.declared.verdict.Verdict.TheVariants.{Good, Bad}
use Rattle.ts_check.specs.Report.{IsReport, IsGoodReport, bad_line}
use Rattle.ts_check.proofs.GoodLemmas.{good_report}
use Rattle.ts_check.proofs.check.check_volume.Goals as goal

-- what holds where a call went well, which it did
went_well : (r : Result Unit AllocError) (P : Type 0) → r ≡ Ok tt → OnOk r P → P
went_well r P is holds = let Q : Result Unit AllocError → Type 0 = λ x. OnOk x P in subst Q is holds

pub returns-in-Ok-clause-report : goal.returns-in-Ok-clause-report
returns-in-Ok-clause-report g c =
    let held = (g.V.Volume.device c.args.vol.now).held in
    let found = c.in-Ok.found in
    IfOk-weaker c.emptied_unless.result _ _ (λ verdict is told.
    let said = went_well c.say_good.result _ is.1 c.say_good.ensures in
    let report = good_report held found.defs.definitions found.space found.free.items c.say_good.new.out c.in-Ok.ensures.kept (c.in-Ok.ensures.laid told) said in
    subst (λ (v : Verdict). IsReport held v c.emptied_unless.new.out) (sym is.0) (subst (IsGoodReport held) (sym is.2) report)) c.emptied_unless.ensures.ok

pub returns-in-Err-NotAStore-clause-report : goal.returns-in-Err-NotAStore-clause-report
returns-in-Err-NotAStore-clause-report g c =
    let tells = g.V.Volume.tells in
    let held = (g.V.Volume.device c.args.vol.now).held in
    let first = subst (λ (e : SurveyFault). IfRefused e (λ page. IsTrue tells → IsFirstBadOf held page)) c.in-Err-NotAStore.field-0-is c.in-Err-NotAStore.ensures.refused in
    IfOk-weaker c.emptied_unless-in-Err-NotAStore.result _ _ (λ verdict is told.
    let line = went_well c.say_bad.result _ is.1 c.say_bad.ensures in
    let whole = is.2 ∙ line ∙ (λ i. c.clear.ensures i ++ bad_line (c.in-Err-NotAStore.page-is i)) in
    subst (λ (v : Verdict). IsReport held v c.emptied_unless-in-Err-NotAStore.new.out) (sym (is.0 ∙ ap (λ (n : ℕ). Bad n) c.in-Err-NotAStore.page-is)) (first told, whole)) c.emptied_unless-in-Err-NotAStore.ensures.ok
