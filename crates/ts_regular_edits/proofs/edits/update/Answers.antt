use Rattle.std.proofs.Common.{sym, ap, ◌∙◌}
use Rattle.ts_space.specs.Directory.{places_of}
use Rattle.ts_series.specs.declared.edits.EditKind.TheVariants.{Update}
use Rattle.ts_regular_edits.specs.Edit.{refusal_if}
use Rattle.ts_regular_edits.proofs.EditLemmas.{put_after}
use Rattle.ts_regular_edits.proofs.edits.update.Goals as goal

pub returns-clause-done : goal.returns-clause-done
returns-clause-done g c =
    let shelf = c.args.shelf.now in
    let found = c.in_ok-regular_find.ensures in
    put_after g.P.Pages.tells shelf.series shelf.kind.now.columns Update c.args.offset c.args.start c.args.row.now c.args.room (places_of shelf.series c.args.space.now)
    (g.P.Pages.contents c.args.pages.now) (g.P.Pages.contents c.regular_find.new.pages) (g.P.Pages.contents c.put.new.pages) c.in_ok-regular_find.field-0 c.put.result
    found.found (ap (refusal_if Update) (sym c.is_some-there.ensures ∙ c.if-not-there.false)) found.call (c.put.ensures.done Update)
