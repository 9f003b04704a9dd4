use Rattle.ts_chain.proofs.MovedLemmas.{moved_are, places_readable, places_freeable}
use Rattle.ts_chain.proofs.laws.changed_places_are_places.Goals as goal

pub returns-clause-moved : goal.returns-clause-moved
returns-clause-moved c = moved_are

pub returns-clause-readable : goal.returns-clause-readable
returns-clause-readable c = places_readable

pub returns-clause-freed : goal.returns-clause-freed
returns-clause-freed c = places_freeable
