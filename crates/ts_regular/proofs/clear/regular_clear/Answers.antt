-- The places of the range are those between the ranks of its ends.
use Rattle.std.proofs.Common.{pos, ◌∙◌, ap}
use Rattle.ts_space.specs.Directory.{places_of}
use Rattle.ts_space.specs.Place.{rank_of}
use Rattle.ts_regular.proofs.RankLemmas.{ranged, rest_rising, turned}
use Rattle.ts_regular.proofs.clear.regular_clear.Goals as goal

pub returns-then-to-from-clause-ok : goal.returns-then-to-from-clause-ok
returns-then-to-from-clause-ok g c =
    turned g.P.Pages.tells c.args.shelf.now.series c.args.shelf.now.kind.now.columns c.args.from c.args.to (places_of c.args.shelf.now.series c.args.space.now) (g.P.Pages.contents c.args.pages.now) c.if-to-from.true

pub rank-requires-clause-rising : goal.rank-requires-clause-rising
rank-requires-clause-rising g c = rest_rising (pos c.base_of.result) c.places-places.result.now c.places-places.ensures.rising c.rank-first.result c.rank-first.ensures.rank

pub clear-requires-clause-range : goal.clear-requires-clause-range
clear-requires-clause-range g c =
    ranged c.args.shelf.now.kind.now.columns c.args.from c.args.to c.places-places.result.now c.rank-first.result c.rank.result c.places-places.ensures.rising
    (c.rank-first.ensures.rank ∙ ap (λ n. rank_of (pos n) c.places-places.result.now) c.base_of.ensures.value) c.rank.ensures.rank
