use Rattle.ts_layout.proofs.CallerLemmas.{quotas_countable}
use Rattle.ts_page_vectors.proofs.charges.counted.Goals as goal

pub count-requires-clause-countable : goal.count-requires-clause-countable
count-requires-clause-countable c = quotas_countable c.args.found.now.defs.definitions c.args.found.now.space c.args.found.now.free.items 933 c.requires.kept
