use Rattle.std.proofs.Common.{refl, arith}
use Rattle.ts_space.specs.Directory.{places_of}
use Rattle.ts_clip.proofs.ChainToldLemmas.{count_told, few_counted}
use Rattle.ts_clip.proofs.chain_visit.rows_over.Goals as goal

pub returns-then-are_few-clause-few : goal.returns-then-are_few-clause-few
returns-then-are_few-clause-few g c = λ none told es have.
    let few = c.if-are_few.ensures refl in
    let most =
    few_counted c.args.shelf.now.series c.args.shelf.now.kind.now.columns (g.P.Pages.contents c.args.pages.now).page (places_of c.args.shelf.now.series c.args.space.now) c.places-places.result.now
    c.places_between-first.result.0 c.places_between-first.result.1 c.args.from c.args.to es c.places-places.ensures.ok c.places_between-first.ensures.range have in
    omega (arith, few, most)

pub returns-then-rows-gt-MOST_ROWS-clause-many : goal.returns-then-rows-gt-MOST_ROWS-clause-many
returns-then-rows-gt-MOST_ROWS-clause-many g c = λ told es have. (
  count_told c.args.shelf.now.series c.args.shelf.now.kind.now.columns (g.P.Pages.contents c.args.pages.now).page (places_of c.args.shelf.now.series c.args.space.now) c.places-places.result.now
      c.places_between-first.result.0 c.places_between-first.result.1 c.args.from c.args.to es c.places-places.ensures.ok c.places_between-first.ensures.range have c.in_ok-rows.rows (c.in_ok-rows.ensures.count told),
  c.if-rows-gt-MOST_ROWS.true,
)

pub returns-clause-few : goal.returns-clause-few
returns-clause-few g c = λ none told es have.
    let count =
    count_told c.args.shelf.now.series c.args.shelf.now.kind.now.columns (g.P.Pages.contents c.args.pages.now).page (places_of c.args.shelf.now.series c.args.space.now) c.places-places.result.now
    c.places_between-first.result.0 c.places_between-first.result.1 c.args.from c.args.to es c.places-places.ensures.ok c.places_between-first.ensures.range have c.in_ok-rows.rows (c.in_ok-rows.ensures.count told) in
    omega (arith, count, c.if-rows-gt-MOST_ROWS.false)
