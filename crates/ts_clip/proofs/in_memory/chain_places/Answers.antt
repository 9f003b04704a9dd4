use Rattle.std.proofs.Common.{refl}
use Rattle.ts_clip.proofs.RangePlaceLemmas.{chain_held}
use Rattle.ts_clip.proofs.in_memory.chain_places.Goals as goal

pub returns : goal.returns
returns c =
    let held = c.places_between-first in
    record { holds = λ columns. chain_held columns c.args.from c.args.to c.args.places.now _ held.result.0 held.result.1 held.ensures.range refl }
