use Rattle.std.proofs.Common.{refl, sym, subst, inl, inr}
use Rattle.ts_space.specs.Directory.{places_of}
use Rattle.ts_series.specs.declared.edits.EditKind.{EditKind}
use Rattle.ts_series.specs.declared.edits.EditKind.TheVariants.{Put, PutNoDups}
use Rattle.ts_regular_edits.specs.Edit.{IsDone}
use Rattle.ts_regular_edits.proofs.edits.edit_offset.Goals as goal

pub returns-in-Put-clause-done : goal.returns-in-Put-clause-done
returns-in-Put-clause-done g c =
    let shelf = c.args.shelf.now in
    let Done : EditKind → Type 0 = λ how. IsDone g.P.Pages.tells shelf.series shelf.kind.now.columns how c.args.offset c.args.start c.args.row.now c.args.room
    (places_of shelf.series c.args.space.now) (g.P.Pages.contents c.args.pages.now) (g.P.Pages.contents c.put.new.pages) c.put.result in
    elim c.in-Put.is [
      | inl put ↦ subst Done (sym put) (c.put.ensures.done Put (λ told ps on. refl))
      | inr put ↦ subst Done (sym put) (c.put.ensures.done PutNoDups (λ told ps on. refl))
    ]

pub returns-in-Insert-clause-done : goal.returns-in-Insert-clause-done
returns-in-Insert-clause-done g c =
    let shelf = c.args.shelf.now in
    subst (λ (how : EditKind). IsDone g.P.Pages.tells shelf.series shelf.kind.now.columns how c.args.offset c.args.start c.args.row.now c.args.room
    (places_of shelf.series c.args.space.now) (g.P.Pages.contents c.args.pages.now) (g.P.Pages.contents c.insert.new.pages) c.insert.result) (sym c.in-Insert.is) c.insert.ensures.done

pub returns-in-Update-clause-done : goal.returns-in-Update-clause-done
returns-in-Update-clause-done g c =
    let shelf = c.args.shelf.now in
    subst (λ (how : EditKind). IsDone g.P.Pages.tells shelf.series shelf.kind.now.columns how c.args.offset c.args.start c.args.row.now c.args.room
    (places_of shelf.series c.args.space.now) (g.P.Pages.contents c.args.pages.now) (g.P.Pages.contents c.update.new.pages) c.update.result) (sym c.in-Update.is) c.update.ensures.done
