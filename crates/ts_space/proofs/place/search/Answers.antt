use Rattle.std.proofs.Common.{rules, arith, w64, of_z}
use Rattle.std.proofs.lemmas.Int.{to_z-of_z}
use Rattle.ts_space.proofs.PlaceLemmas.{same_read, search_found, search_none, search_place, no_place}
use Rattle.ts_space.proofs.place.search.Goals.{else-rank-places-via-then-rank-places+else-places-rank, else-rank-places-via-else-rank-places}
use Rattle.ts_space.proofs.place.search.Goals as goal

pub returns-then-places-rank-clause-ok : goal.returns-then-places-rank-clause-ok
returns-then-places-rank-clause-ok c =
    let here = rw (to_z-of_z w64 c.args.at c.ranges.at) at c.rank-rank.ensures.ok in
    let there = same_read _ c.args.at (search rules) c.ranges.at c.if-places-rank.true in
    search_found c.args.places.now c.args.at c.rank-rank.result _ here c.if-rank-places.true there

pub returns-then-places-rank-clause-place : goal.returns-then-places-rank-clause-place
returns-then-places-rank-clause-place c =
    let here = rw (to_z-of_z w64 c.args.at c.ranges.at) at c.rank-rank.ensures.ok in
    let there = same_read _ c.args.at (search rules) c.ranges.at c.if-places-rank.true in
    search_place c.args.places.now c.args.at c.rank-rank.result _ here c.if-rank-places.true there

pub returns-else-rank-places-clause-ok : goal.returns-else-rank-places-clause-ok
returns-else-rank-places-clause-ok c =
    let here = rw (to_z-of_z w64 c.args.at c.ranges.at) at c.rank-rank.ensures.ok in
    elim c.else-rank-places.branch [
      | else-rank-places-via-then-rank-places+else-places-rank w ↦
          search_none c.args.places.now c.args.at c.rank-rank.result no_place c.requires here (λ within same. w.if-places-rank.false (λ i. of_z w64 (same i)))
      | else-rank-places-via-else-rank-places w ↦
          search_none c.args.places.now c.args.at c.rank-rank.result no_place c.requires here (λ within same. absurd (let past = w.if-rank-places.false in omega (arith, within, past)))
    ]
