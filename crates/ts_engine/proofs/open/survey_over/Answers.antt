use Rattle.std.proofs.Common.{ap, arith, Err}
use Rattle.ts_store.proofs.CallerLemmas.{idle_dropped, closed_dropped}
use Rattle.ts_engine.proofs.OpenLemmas.{survey_fault, found_dropped, marked_dropped, if_err}
use Rattle.ts_engine.specs.Start.{ReadFault}
use Rattle.ts_engine.proofs.open.survey_over.Goals as goal

pub returns-in_err-surveyed-clause-fault : goal.returns-in_err-surveyed-clause-fault
returns-in_err-surveyed-clause-fault g c =
    let v = g.V.Volume.device c.args.vol.now in
    let w = g.V.Volume.device c.survey_on.new.vol in
    if_err c.from_residual.result c.in_err-surveyed.field-0.0 (λ fault. ReadFault g.V.Volume.tells fault v w) c.from_residual.ensures.1
    (survey_fault g.V.Volume.tells c.in_err-surveyed.field-0.0 _ c.args.store.now v w (g.met.V.Volume.lawful c.args.vol.now) c.requires.idle c.requires.closed (omega (arith, c.len.ensures, c.requires.idle.over.read.size))
    (λ is. c.in_err-surveyed.ensures.cause (ap Err is)) (λ other. c.in_err-surveyed.ensures.no_fault (λ failed. other (cc))) c.in_err-surveyed.ensures.refused)

pub returns-clause-found : goal.returns-clause-found
returns-clause-found g c =
    found_dropped g.V.Volume.tells _ c.args.store.now c.survey_on.new.store c.discard.new.self (g.V.Volume.device c.args.vol.now) (g.V.Volume.device c.survey_on.new.vol)
    c.in_ok-surveyed.surveyed.defs.definitions c.in_ok-surveyed.surveyed.space c.in_ok-surveyed.surveyed.free.items c.requires.idle c.survey_on.ensures.undisturbed c.discard.ensures c.in_ok-surveyed.ensures.found
    (omega (arith, c.len.ensures, c.requires.idle.over.read.size))

pub returns-clause-marked : goal.returns-clause-marked
returns-clause-marked g c =
    marked_dropped g.V.Volume.tells _ c.args.store.now c.survey_on.new.store c.discard.new.self (g.V.Volume.device c.args.vol.now) (g.V.Volume.device c.survey_on.new.vol)
    c.in_ok-surveyed.surveyed.defs.definitions c.in_ok-surveyed.surveyed.space c.in_ok-surveyed.surveyed.free.items c.in_ok-surveyed.surveyed.hidden.items c.requires.idle c.survey_on.ensures.undisturbed c.discard.ensures c.in_ok-surveyed.ensures.marked
    (omega (arith, c.len.ensures, c.requires.idle.over.read.size))

pub returns-clause-idle : goal.returns-clause-idle
returns-clause-idle g c =
    idle_dropped g.V.Volume.tells c.args.store.now c.survey_on.new.store c.discard.new.self (g.V.Volume.device c.args.vol.now) (g.V.Volume.device c.survey_on.new.vol) c.requires.idle c.survey_on.ensures.undisturbed c.discard.ensures

pub returns-clause-closed : goal.returns-clause-closed
returns-clause-closed g c =
    closed_dropped g.V.Volume.tells c.args.store.now c.survey_on.new.store c.discard.new.self (g.V.Volume.device c.args.vol.now) (g.V.Volume.device c.survey_on.new.vol) c.requires.closed c.requires.idle.kept_free c.survey_on.ensures.undisturbed c.discard.ensures
