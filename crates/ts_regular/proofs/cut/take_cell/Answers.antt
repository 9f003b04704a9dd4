use Rattle.std.proofs.Common.{◌≡◌, None, IsSome, sym, ap, ◌∙◌, arith}
use Rattle.ts_regular.specs.RegularPage.{behind_head, filled_count}
use Rattle.ts_regular.specs.OnePage.{cell_at, without_row}
use Rattle.ts_regular.proofs.CellsLemmas.{count_none, count_taken, none_there}
use Rattle.ts_regular.proofs.RangeLemmas.{without_none}
use Rattle.ts_regular.proofs.cut.take_cell.Goals as goal

pub returns-then-count-eq0-clause-taken : goal.returns-then-count-eq0-clause-taken
returns-then-count-eq0-clause-taken c = λ cells are within count same.
    let none : cell_at cells c.args.index ≡ None = count_none c.args.index cells (count ∙ c.if-count-eq0.true) in
    let kept : without_row c.args.index cells ≡ cells = without_none c.args.index cells none in
    (ap filled_count kept ∙ count ∙ c.if-count-eq0.true, same ∙ ap (behind_head c.args.kind.now.columns) (sym kept))

pub returns-then-not-has_element_at-clause-taken : goal.returns-then-not-has_element_at-clause-taken
returns-then-not-has_element_at-clause-taken c = λ cells are within count same.
    let none : cell_at cells c.args.index ≡ None = none_there (cell_at cells c.args.index) c.has_element_at.result c.if-not-has_element_at.true (c.has_element_at.ensures cells are within same) in
    let kept : without_row c.args.index cells ≡ cells = without_none c.args.index cells none in
    (ap filled_count kept ∙ count, same ∙ ap (behind_head c.args.kind.now.columns) (sym kept))

pub returns-clause-taken : goal.returns-clause-taken
returns-clause-taken c = λ cells are within count same.
    let some : IsSome (cell_at cells c.args.index) = sym (c.has_element_at.ensures cells are within same) ∙ c.if-not-has_element_at.false in
    let one = count_taken c.args.index cells within some in
    (omega (arith, one, count), c.empty_cell.ensures cells are within same)
