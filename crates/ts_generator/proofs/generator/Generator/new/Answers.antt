use Rattle.ts_generator.proofs.GeneratingLemmas.{tally_none}
use Rattle.ts_generator.proofs.generator.Generator.new.Goals as goal

pub returns-clause-tally : goal.returns-clause-tally
returns-clause-tally c = tally_none c.new.result c.new-2.result c.new.ensures c.new-2.ensures
