use Rattle.std.proofs.Common.{ℕ, ◌<◌, ◌^◌, sym, subst, ◌∙◌}
use Rattle.ts_space.specs.Place.{count_of}
use Rattle.ts_space.specs.Directory.{places_of}
use Rattle.ts_shelf.proofs.MemoryLemmas.{few_elements}
use Rattle.ts_combined_rows.specs.Gathered.{seen_by}
use Rattle.ts_combined_rows.proofs.EachSeriesLemmas.{one_said}
use Rattle.ts_combined_rows.proofs.GatheredLemmas.{stands_named}
use Rattle.ts_combined_rows.proofs.each_series.say_if_inside.Goals as goal

pub shelf_at-shape-requires-clause-named : goal.shelf_at-shape-requires-clause-named
shelf_at-shape-requires-clause-named g c =
    let x = seen_by c.args.range.now (g.P.Pages.contents c.args.pages.now) in
    stands_named x c.requires.seen.kept c.args.range.now.container c.args.slot c.requires.slot (sym c.stands_in.ensures ∙ c.if-not-stands_in.false)

pub aggregate_range-requires-clause-countable : goal.aggregate_range-requires-clause-countable
aggregate_range-requires-clause-countable g c =
    let x = seen_by c.args.range.now (g.P.Pages.contents c.args.pages.now) in
    subst (λ (n : ℕ). count_of (places_of n c.args.range.now.space.now) < 2 ^ 32) (sym c.shelf_at-shape.ensures.slot) (few_elements x c.requires.seen.kept c.args.slot c.requires.slot)

pub returns-clause-said : goal.returns-clause-said
returns-clause-said g c = λ told l shows fresh.
    let range = c.args.range.now in
    let x = seen_by range (g.P.Pages.contents c.args.pages.now) in
    let found = c.shelf_at-shape in
    let row = c.in_ok-row in
    one_said g.P.Pages.tells x l found.result.1 found.ensures.laid c.args.slot found.result.0.kind.now told shows found.ensures.columns found.ensures.lies c.requires.slot range.container (sym c.stands_in.ensures ∙ c.if-not-stands_in.false)
    c.key_at.result.now c.key_at.ensures c.args.bound.now c.requires.columns range.from range.to c.args.folding.now c.aggregate_range.new.folding row.row c.args.out.now c.say_series_folded.new.out c.scales.result.now fresh
    (rw found.ensures.slot at row.ensures.folds) c.scales.ensures.value c.in_ok-say_series_folded.ensures.ok
