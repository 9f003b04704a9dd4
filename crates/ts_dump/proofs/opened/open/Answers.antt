use Rattle.std.proofs.Common.{Result, Err, subst}
use Rattle.ts_container.specs.declared.fault.SurveyFault.{SurveyFault}
use Rattle.ts_container.specs.declared.surveyed.Surveyed.{Surveyed}
use Rattle.ts_store.proofs.CallerLemmas.{read_recovered}
use Rattle.ts_check.specs.Checked.{VolumeSurveyed, read_as}
use Rattle.ts_check.proofs.VolumeLemmas.{unread, surveyed}
use Rattle.ts_dump.proofs.OpenLemmas.{store_of, kept_by, opened_err}
use Rattle.ts_dump.proofs.opened.open.Goals as goal

pub survey_over-requires-clause-read : goal.survey_over-requires-clause-read
survey_over-requires-clause-read g c =
    let v = g.V.Volume.device c.args.vol.now in
    let x = g.V.Volume.device c.recover.new.vol in
    let found = c.in-Ok.ensures in
    read_recovered g.V.Volume.tells c.in-Ok.replayed.pages c.in-Ok.replayed.journal c.in-Ok.replayed.overlay.entries c.in_ok-store-in-Ok.store v x c.in_ok-store-in-Ok.ensures found.others found.count found.size found.ok found.allowed

pub returns-in_err-found-in-Ok : goal.returns-in_err-found-in-Ok
returns-in_err-found-in-Ok g c =
    let tells = g.V.Volume.tells in
    let v = g.V.Volume.device c.args.vol.now in
    let x = g.V.Volume.device c.recover.new.vol in
    let w = g.V.Volume.device c.survey_over.new.vol in
    let read = c.in-Ok.ensures in
    let found = c.survey_over.ensures in
    let whole = surveyed tells v x w (g.met.V.Volume.lawful c.args.vol.now) c.in-Ok.replayed.pages c.in-Ok.replayed.journal c.in-Ok.replayed.overlay.entries c.in_ok-store-in-Ok.store c.survey_over.new.store
    c.in_ok-store-in-Ok.ensures read.others read.count read.size read.ok read.allowed found.undisturbed (read.no_fault (λ failed. cc))
    c.survey_over.result found.found found.refused found.cause found.no_fault in
    opened_err tells c.from_residual-in_err-found-in-Ok.result c.in_err-found-in-Ok.field-0.0 v w c.from_residual-in_err-found-in-Ok.ensures.1
    (subst (λ (r : Result Surveyed SurveyFault). VolumeSurveyed tells r v w) c.in_err-found-in-Ok.was whole)

pub returns-in_ok-found-in-Ok : goal.returns-in_ok-found-in-Ok
returns-in_ok-found-in-Ok g c =
    let tells = g.V.Volume.tells in
    let v = g.V.Volume.device c.args.vol.now in
    let x = g.V.Volume.device c.recover.new.vol in
    let w = g.V.Volume.device c.survey_over.new.vol in
    let read = c.in-Ok.ensures in
    let found = c.survey_over.ensures in
    let s = c.in_ok-store-in-Ok.store in
    let t = c.survey_over.new.store in
    let fresh = c.in_ok-store-in-Ok.ensures in
    let over = read_recovered tells c.in-Ok.replayed.pages c.in-Ok.replayed.journal c.in-Ok.replayed.overlay.entries s v x fresh read.others read.count read.size read.ok read.allowed in
    let whole = surveyed tells v x w (g.met.V.Volume.lawful c.args.vol.now) c.in-Ok.replayed.pages c.in-Ok.replayed.journal c.in-Ok.replayed.overlay.entries s t
    fresh read.others read.count read.size read.ok read.allowed found.undisturbed (read.no_fault (λ failed. cc))
    c.survey_over.result found.found found.refused found.cause found.no_fault in
    let kept = c.in_ok-found-in-Ok.found in
    record {
      surveyed = subst (λ (r : Result Surveyed SurveyFault). VolumeSurveyed tells r v w) c.in_ok-found-in-Ok.was whole;
      ready = record {
        store = store_of tells x w c.in-Ok.replayed.pages c.in-Ok.replayed.journal c.in-Ok.replayed.overlay.entries s t fresh over found.undisturbed;
        kept = kept_by tells x w c.in-Ok.replayed.pages c.in-Ok.replayed.journal c.in-Ok.replayed.overlay.entries s t fresh over found.undisturbed
            kept.defs.definitions kept.space kept.free.items c.in_ok-found-in-Ok.ensures.found.kept;
      };
    }

pub returns-in-Err : goal.returns-in-Err
returns-in-Err g c =
    let tells = g.V.Volume.tells in
    let v = g.V.Volume.device c.args.vol.now in
    let w = g.V.Volume.device c.recover.new.vol in
    let read = c.in-Err.ensures in
    opened_err tells (Err c.read_as.result) (read_as c.in-Err.fault) v w c.read_as.ensures
    (unread tells v w (g.met.V.Volume.lawful c.args.vol.now) read.others c.in-Err.fault read.cause read.no_fault)
