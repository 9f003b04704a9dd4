use Rattle.std.proofs.Common.{List, ap, subst}
use Rattle.ts_model.specs.Definitions.{Tables}
use Rattle.ts_model.proofs.PartsLemmas.{parts-rules}
use Rattle.ts_container.specs.declared.found.Broken.{Broken}
use Rattle.ts_container.specs.Survey.{AreRight, IsWrong}
use Rattle.ts_container.proofs.SurveyLemmas.{err_is}
use Rattle.ts_container.proofs.EarlyLemmas.{header_read, sound_err, sound_wrong, sound_right}
use Rattle.ts_container.proofs.surveyed.survey_definitions.Goals as goal

pub returns-in_err-broken-clause-read : goal.returns-in_err-broken-clause-read
returns-in_err-broken-clause-read g c =
    let u = g.P.Pages.contents c.args.pages.now in
    let v = g.P.Pages.contents c.read.new.pages in
    let w = g.P.Pages.contents c.read_definitions.new.pages in
    let is = err_is c.from_residual-in_err-broken.result c.in_err-broken.field-0.0 c.from_residual-in_err-broken.ensures.1 in
    let own = c.set_format.new.self.definitions.format in
    let header = header_read g.P.Pages.tells c.args.count own c.in-Some.format c.read.new.page.bytes u.page c.in_ok-read.ensures.got.read c.in-Some.ensures.found (ap (λ (t : Tables). t.definitions.format) c.set_format.ensures) in
    let read = sound_err g.P.Pages.tells own c.args.count c.in_err-broken.field-0.0 c.read_definitions.new.defs.definitions u v w header c.in_ok-read.ensures.got.call c.in_err-broken.ensures.read in
    rw is read

pub first_wrong-requires-clause-rules : goal.first_wrong-requires-clause-rules
first_wrong-requires-clause-rules g c = parts-rules c.defs.inside c.read_definitions.new.defs c.defs.invariant c.defs.view_is

pub returns-in-Some-first_wrong-clause-read : goal.returns-in-Some-first_wrong-clause-read
returns-in-Some-first_wrong-clause-read g c =
    let u = g.P.Pages.contents c.args.pages.now in
    let v = g.P.Pages.contents c.read.new.pages in
    let w = g.P.Pages.contents c.read_definitions.new.pages in
    let x = c.read_definitions.new.defs in
    let own = c.set_format.new.self.definitions.format in
    let header = header_read g.P.Pages.tells c.args.count own c.in-Some.format c.read.new.page.bytes u.page c.in_ok-read.ensures.got.read c.in-Some.ensures.found (ap (λ (t : Tables). t.definitions.format) c.set_format.ensures) in
    sound_wrong g.P.Pages.tells own c.args.count c.in_ok-broken.broken x u v w header c.in_ok-read.ensures.got.call c.in_ok-broken.ensures.read c.in-Some-first_wrong.bad
    (subst (λ (bs : List Broken). IsWrong c.args.count x.definitions bs c.in-Some-first_wrong.bad) c.deref.ensures.value c.in-Some-first_wrong.ensures)

pub returns-in-None-clause-read : goal.returns-in-None-clause-read
returns-in-None-clause-read g c =
    let u = g.P.Pages.contents c.args.pages.now in
    let v = g.P.Pages.contents c.read.new.pages in
    let w = g.P.Pages.contents c.read_definitions.new.pages in
    let x = c.read_definitions.new.defs in
    let own = c.set_format.new.self.definitions.format in
    let header = header_read g.P.Pages.tells c.args.count own c.in-Some.format c.read.new.page.bytes u.page c.in_ok-read.ensures.got.read c.in-Some.ensures.found (ap (λ (t : Tables). t.definitions.format) c.set_format.ensures) in
    sound_right g.P.Pages.tells own c.args.count c.in_ok-broken.broken x u v w header c.in_ok-read.ensures.got.call c.in_ok-broken.ensures.read (parts-rules c.defs.inside x c.defs.invariant c.defs.view_is)
    (subst (λ (bs : List Broken). AreRight c.args.count x.definitions bs) c.deref.ensures.value c.in-None.ensures)
