use Rattle.std.proofs.Common.{Err, sym, subst}
use Rattle.ts_container.specs.declared.fault.SurveyFault.{SurveyFault}
use Rattle.ts_store.proofs.CallerLemmas.{read_recovered}
use Rattle.ts_check.specs.Checked.{VolumeSurveyed}
use Rattle.ts_check.proofs.VolumeLemmas.{unread, surveyed}
use Rattle.ts_check.proofs.check.survey_volume.Goals as goal

pub survey_over-requires-clause-read : goal.survey_over-requires-clause-read
survey_over-requires-clause-read g c = λ lifetimes outlive.
    let v = g.V.Volume.device c.args.vol.now in
    let x = g.V.Volume.device c.recover.new.vol in
    let found = c.in-Ok.ensures in
    read_recovered g.V.Volume.tells c.in-Ok.replayed.pages c.in-Ok.replayed.journal c.in-Ok.replayed.overlay.entries c.in_ok-store-in-Ok.store v x c.in_ok-store-in-Ok.ensures found.others found.count found.size found.ok found.allowed

pub returns-in_ok-store-in-Ok : goal.returns-in_ok-store-in-Ok
returns-in_ok-store-in-Ok g c =
    let v = g.V.Volume.device c.args.vol.now in
    let x = g.V.Volume.device c.recover.new.vol in
    let w = g.V.Volume.device c.survey_over.new.vol in
    let read = c.in-Ok.ensures in
    let found = c.survey_over.ensures in
    surveyed g.V.Volume.tells v x w (g.met.V.Volume.lawful c.args.vol.now) c.in-Ok.replayed.pages c.in-Ok.replayed.journal c.in-Ok.replayed.overlay.entries c.in_ok-store-in-Ok.store c.survey_over.new.store
    c.in_ok-store-in-Ok.ensures read.others read.count read.size read.ok read.allowed found.undisturbed (read.no_fault (λ failed. cc))
    c.survey_over.result found.found found.refused found.cause found.no_fault

pub returns-in-Err : goal.returns-in-Err
returns-in-Err g c =
    let tells = g.V.Volume.tells in
    let v = g.V.Volume.device c.args.vol.now in
    let w = g.V.Volume.device c.recover.new.vol in
    let read = c.in-Err.ensures in
    subst (λ (e : SurveyFault). VolumeSurveyed tells (Err e) v w) (sym c.read_as.ensures)
    (unread tells v w (g.met.V.Volume.lawful c.args.vol.now) read.others c.in-Err.fault read.cause read.no_fault)
