use Rattle.ts_irregular.proofs.CallerLemmas.{entries_rising, seen_at}
use Rattle.ts_irregular.proofs.laws.the_map_has_the_elements.Goals as goal

pub returns-clause-entries : goal.returns-clause-entries
returns-clause-entries c = entries_rising

pub returns-clause-seen : goal.returns-clause-seen
returns-clause-seen c = seen_at
