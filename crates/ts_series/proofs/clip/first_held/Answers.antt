use Rattle.std.proofs.Common.{refl}
use Rattle.ts_series.proofs.PlacesLemmas.{range_from, range_all}
use Rattle.ts_series.proofs.clip.first_held.Goals as goal

pub returns-in-Some : goal.returns-in-Some
returns-in-Some c = range_from c.args.from c.args.to c.requires.order c.args.places.now c.in-Some.first c.args.last c.in-Some.ensures.some c.requires.last

pub returns-in-None : goal.returns-in-None
returns-in-None c = range_all c.args.from c.args.to c.args.places.now c.args.last (c.in-None.ensures.none refl) c.requires.last
