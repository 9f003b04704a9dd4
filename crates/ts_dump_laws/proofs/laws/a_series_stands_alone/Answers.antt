use Rattle.ts_dump_laws.proofs.AloneLemmas.{stand_alone}
use Rattle.ts_dump_laws.proofs.laws.a_series_stands_alone.Goals as goal

pub returns : goal.returns
returns c = stand_alone
