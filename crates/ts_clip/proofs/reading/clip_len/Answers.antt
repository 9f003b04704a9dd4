use Rattle.std.proofs.lemmas.Result.{IfOk-weaker}
use Rattle.ts_clip.proofs.reading.clip_len.Goals as goal

pub returns-clause-read : goal.returns-clause-read
returns-clause-read g c = IfOk-weaker c.clip_len_shown.result _ _ (λ count read told es have. read told es have (λ yes. absurd (cc))) c.clip_len_shown.ensures.read
