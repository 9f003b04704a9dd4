use Rattle.ts_regular.proofs.EditLemmas.{search_within}
use Rattle.ts_regular.proofs.find.holder.Goals as goal

pub returns-clause-there : goal.returns-clause-there
returns-clause-there c =
    search_within _ c.args.places.now c.search.result c.requires.rising c.search.ensures.ok
