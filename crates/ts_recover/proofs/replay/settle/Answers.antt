use Rattle.std.proofs.Common.{refl}
use Rattle.ts_journal.proofs.CallerLemmas.{lasts_failed}
use Rattle.ts_recover.proofs.replay.settle.Goals as goal

pub returns-in_err-checkpoint-clause-lasts : goal.returns-in_err-checkpoint-clause-lasts
returns-in_err-checkpoint-clause-lasts g c =
    lasts_failed g.V.Volume.tells _ _ _ c.from_residual.result (g.V.Volume.device c.args.vol.now) (g.V.Volume.device c.checkpoint.new.vol) c.from_residual.ensures.0 c.from_residual.ensures.0
    (c.in_err-checkpoint.ensures.lasts.cause refl) c.checkpoint.ensures.lasts.others c.checkpoint.ensures.lasts.moments

pub returns-clause-lasts : goal.returns-clause-lasts
returns-clause-lasts g c =
    let lasts = c.in_ok-checkpoint.ensures.lasts in
    record { ok = lasts.ok; durable = lasts.durable; cause = λ failed. absurd (cc); no_fault = λ none. lasts.no_fault none; others = lasts.others; moments = lasts.moments }
