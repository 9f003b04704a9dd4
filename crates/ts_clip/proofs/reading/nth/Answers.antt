use Rattle.std.proofs.lemmas.Result.{IfOk-weaker}
use Rattle.ts_clip.proofs.reading.nth.Goals as goal

pub returns-clause-read : goal.returns-clause-read
returns-clause-read g c = IfOk-weaker c.nth_shown.result _ _ (λ count read told es have. read told es have (λ yes. absurd (cc))) c.nth_shown.ensures.read
