use Rattle.std.proofs.Common.{IfOk, subst, sym}
use Rattle.ts_space.specs.Directory.{places_of}
use Rattle.ts_series.specs.declared.edits.EditKind.{EditKind}
use Rattle.ts_series.specs.Edit.{IsEdited}
use Rattle.ts_series.proofs.edits.edit.Goals as goal

pub returns-in-Update-clause-ok : goal.returns-in-Update-clause-ok
returns-in-Update-clause-ok g c =
    let shelf = c.args.shelf.now in
    subst (λ (how : EditKind). IfOk c.update.result (IsEdited g.P.Pages.tells shelf.series shelf.kind.now.columns how c.args.stamp c.args.row.now c.args.room (places_of shelf.series c.args.space.now)
    (g.P.Pages.contents c.args.pages.now) (g.P.Pages.contents c.update.new.pages))) (sym c.in-Update.is) (c.update.ensures.done c.args.room).ok

pub returns-in-Update-clause-call : goal.returns-in-Update-clause-call
returns-in-Update-clause-call g c = (c.update.ensures.done c.args.room).call

pub returns-in-Update-clause-grows : goal.returns-in-Update-clause-grows
returns-in-Update-clause-grows g c = (c.update.ensures.done c.args.room).grows

pub returns-in-Update-clause-change : goal.returns-in-Update-clause-change
returns-in-Update-clause-change g c = (c.update.ensures.done c.args.room).change
