use Rattle.ts_series.proofs.EndsLemmas.{last_before}
use Rattle.ts_series.proofs.clip.count_before.Goals as goal

pub returns-clause-count : goal.returns-clause-count
returns-clause-count c = last_before c.args.index c.args.places.now _ c.if-index-eq0.false c.requires
