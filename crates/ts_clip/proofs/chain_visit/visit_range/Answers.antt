use Rattle.std.proofs.Common.{List}
use Rattle.ts_row.specs.declared.kind.Column.{Column}
use Rattle.ts_space.specs.Directory.{places_of}
use Rattle.ts_entry.specs.Entry.{Entry}
use Rattle.ts_clip.specs.declared.chain_cells.Wanted.{Wanted}
use Rattle.ts_clip.specs.Chain.{ArePassed}
use Rattle.ts_clip.proofs.ChainReadingLemmas.{taken_of}
use Rattle.ts_clip.proofs.ChainToldLemmas.{range_told}
use Rattle.ts_clip.proofs.chain_visit.visit_range.Goals as goal

pub returns-clause-taken : goal.returns-clause-taken
returns-clause-taken g c = λ told es have.
    let columns : List Column = c.args.shelf.now.kind.now.columns in
    let want : Wanted = record { skip = 0; most = c.args.most } in
    taken_of _ want c.in_ok-left.left _
    (range_told c.args.shelf.now.series columns (g.P.Pages.contents c.args.pages.now).page (places_of c.args.shelf.now.series c.args.space.now) c.places-places.result.now
    c.places_between-first.result.0 c.places_between-first.result.1 c.args.from c.args.to es c.places-places.ensures.ok c.places_between-first.ensures.range have
    (ArePassed (λ (entries : List Entry). g.V.EntryVisitor.took columns c.args.visitor.now entries c.visit_pages.new.visitor) want c.in_ok-left.left) (c.in_ok-left.ensures.passed told))
