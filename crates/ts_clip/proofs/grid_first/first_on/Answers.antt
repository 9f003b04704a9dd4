use Rattle.std.proofs.Common.{ℕ, List, ap, ◌∙◌}
use Rattle.ts_row.specs.declared.kind.Column.{Column}
use Rattle.ts_regular.specs.RegularPage.{elements_from}
use Rattle.ts_clip.specs.Grid.{first_of}
use Rattle.ts_clip.proofs.GridPageLemmas.{behind_on, one_base}
use Rattle.ts_clip.proofs.grid_first.first_on.Goals as goal

pub returns-clause-first : goal.returns-clause-first
returns-clause-first g c = λ t p on.
    let slot : ℕ = c.args.shelf.now.series in
    let columns : List Column = c.args.shelf.now.kind.now.columns in
    let bytes : List ℕ = c.read_base.new.page.bytes in
    let read = c.in_ok-base.ensures.read t p on in
    let fill = read.1.bytes.fill in
    let behind = behind_on slot columns bytes c.args.place.now p read.1 in
    c.in_ok-first_among.ensures.first p.1 fill.each fill.room behind
    ∙ ap (λ (b : ℕ). first_of (elements_from b p.1)) (one_base c.in-Some.base p.0 c.in_ok-base.field-0 c.in-Some.is read.0)
