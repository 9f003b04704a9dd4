use Rattle.ts_answer.specs.View.{view}
use Rattle.ts_rolling_sets.proofs.ClipLemmas.{window_counted}
use Rattle.ts_rolling_sets.proofs.clip.count_window.Goals as goal

pub shelf_at-shape-requires-clause-named : goal.shelf_at-shape-requires-clause-named
shelf_at-shape-requires-clause-named g c = (c.requires.window.key, c.requires.window.named)

pub returns-clause-count : goal.returns-clause-count
returns-clause-count g c = λ told l shows.
    let x = view c.args.defs.now.definitions c.args.space.now (g.P.Pages.contents c.args.pages.now) in
    let found = c.shelf_at-shape in
    window_counted g.P.Pages.tells x c.args.slot c.requires.window found.result.0.kind.now found.result.1 found.result.0.series found.ensures.columns found.ensures.lies found.ensures.slot c.args.from c.args.to c.in_ok-count.count c.in_ok-count.ensures.read told l shows
