use Rattle.std.proofs.Common.{◌-◌, Ok}
use Rattle.std.proofs.lemmas.Result.{IfOk-weaker}
use Rattle.ts_page.specs.Pages.{first_element_page}
use Rattle.ts_container.proofs.SurveyLemmas.{reads_more, reads_ok, err_is}
use Rattle.ts_container.proofs.ComposedLemmas.{all_before, all_listed, finished_found, finished_marked, elements_refused, refused_all, finish_reads, bad_before}
use Rattle.ts_container.proofs.surveyed.survey.Goals as goal

pub finish-requires-clause-read : goal.finish-requires-clause-read
finish-requires-clause-read g c =
    let x = c.in_ok-elements.elements in
    let v = g.P.Pages.contents c.survey_definitions.new.pages in
    let read = c.in_ok-elements.ensures.read.read in
    (read.elements, all_listed g.P.Pages.tells (c.args.count - first_element_page) c.in_ok-defs.defs.definitions v x.spans.items x.free.items read)

pub returns-in_err-elements-clause-refused : goal.returns-in_err-elements-clause-refused
returns-in_err-elements-clause-refused g c =
    let tells = g.P.Pages.tells in
    let u = g.P.Pages.contents c.args.pages.now in
    let v = g.P.Pages.contents c.survey_definitions.new.pages in
    let sound = c.in_ok-defs.ensures.read in
    let d = c.in_ok-defs.defs.definitions in
    let is = err_is c.from_residual-in_err-elements.result c.in_err-elements.field-0.0 c.from_residual-in_err-elements.ensures.1 in
    let refused = elements_refused tells c.args.count d u c.requires.some sound.known sound.read c.in_err-elements.field-0.0 (bad_before tells c.args.count c.in_err-elements.field-0.0 d u v (reads_ok tells c.in_ok-defs.defs (tt {0}) u v sound.call) c.in_err-elements.ensures.read.refused) in
    rw is refused

pub returns-clause-ok : goal.returns-clause-ok
returns-clause-ok g c =
    let tells = g.P.Pages.tells in
    let u = g.P.Pages.contents c.args.pages.now in
    let v = g.P.Pages.contents c.survey_definitions.new.pages in
    let sound = c.in_ok-defs.ensures.read in
    let d = c.in_ok-defs.defs.definitions in
    let x = c.in_ok-elements.elements in
    let all = all_before tells (c.args.count - first_element_page) d u v x.spans.items x.free.items (reads_ok tells c.in_ok-defs.defs (tt {0}) u v sound.call) c.in_ok-elements.ensures.read.read in
    IfOk-weaker c.finish.result _ _ (λ s finished. finished_found tells c.args.count d u c.requires.some sound.known sound.read x.spans.items x.free.items s all finished) c.finish.ensures.ok

pub returns-clause-marked : goal.returns-clause-marked
returns-clause-marked g c =
    let tells = g.P.Pages.tells in
    let u = g.P.Pages.contents c.args.pages.now in
    let v = g.P.Pages.contents c.survey_definitions.new.pages in
    let sound = c.in_ok-defs.ensures.read in
    let d = c.in_ok-defs.defs.definitions in
    let x = c.in_ok-elements.elements in
    let all = all_before tells (c.args.count - first_element_page) d u v x.spans.items x.free.items (reads_ok tells c.in_ok-defs.defs (tt {0}) u v sound.call) c.in_ok-elements.ensures.read.read in
    finished_marked tells c.args.count d u c.requires.some sound.known sound.read x.spans.items x.free.items c.finish.result all c.finish.ensures.ok c.finish.ensures.marked

pub returns-clause-refused : goal.returns-clause-refused
returns-clause-refused g c =
    let tells = g.P.Pages.tells in
    let u = g.P.Pages.contents c.args.pages.now in
    let v = g.P.Pages.contents c.survey_definitions.new.pages in
    let sound = c.in_ok-defs.ensures.read in
    let d = c.in_ok-defs.defs.definitions in
    let x = c.in_ok-elements.elements in
    let all = all_before tells (c.args.count - first_element_page) d u v x.spans.items x.free.items (reads_ok tells c.in_ok-defs.defs (tt {0}) u v sound.call) c.in_ok-elements.ensures.read.read in
    refused_all tells c.args.count d u c.requires.some sound.known sound.read x.spans.items x.free.items c.finish.result all c.finish.ensures.refused

pub returns-clause-call : goal.returns-clause-call
returns-clause-call g c =
    let tells = g.P.Pages.tells in
    let u = g.P.Pages.contents c.args.pages.now in
    let v = g.P.Pages.contents c.survey_definitions.new.pages in
    let w = g.P.Pages.contents c.read_elements.new.pages in
    finish_reads tells c.finish.result u w (reads_more tells (tt {0}) (Ok (tt {0})) u v w (reads_ok tells c.in_ok-defs.defs (tt {0}) u v c.in_ok-defs.ensures.read.call) (reads_ok tells c.in_ok-elements.elements (tt {0}) v w c.in_ok-elements.ensures.read.call)) c.finish.ensures.done

pub returns-clause-undisturbed : goal.returns-clause-undisturbed
returns-clause-undisturbed g c =
    g.met.P.Pages.«then» c.args.pages.now c.survey_definitions.new.pages c.read_elements.new.pages c.in_ok-defs.ensures.undisturbed c.in_ok-elements.ensures.undisturbed
