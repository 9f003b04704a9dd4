use Rattle.std.proofs.Common.{◌≡◌, ◌-◌, ◌<◌, IsSome, ℕ, List, length, sym, ◌∙◌, arith}
use Rattle.ts_row.specs.declared.kind.Column.{Column}
use Rattle.ts_regular.specs.RegularPage.{filled_count}
use Rattle.ts_regular.specs.OnePage.{cell_at, without_row}
use Rattle.ts_regular.proofs.CellsLemmas.{count_none, count_taken, none_there}
use Rattle.ts_regular.proofs.HeadLemmas.{part_behind, length-page, behind_put}
use Rattle.ts_regular.proofs.page.take_out.Goals as goal

pub returns-then-count-eq0-clause-empty : goal.returns-then-count-eq0-clause-empty
returns-then-count-eq0-clause-empty c = λ is cells are room count same. count_none c.args.index cells (count ∙ sym is)

pub returns-then-not-has_element_at-clause-empty : goal.returns-then-not-has_element_at-clause-empty
returns-then-not-has_element_at-clause-empty c = λ is cells are room count same.
    let long = length-page c.args.shelf.now.kind.now.columns cells c.args.page.now.bytes are room same in
    none_there (cell_at cells c.args.index) c.has_element_at.result c.if-not-has_element_at.true (c.has_element_at.ensures cells are (omega (arith, room, c.requires.index)) (part_behind 4064 c.args.page.now.bytes long ∙ same))

pub returns-clause-taken : goal.returns-clause-taken
returns-clause-taken c = λ less cells are room count same.
    let columns : List Column = c.args.shelf.now.kind.now.columns in
    let page : List ℕ = c.args.page.now.bytes in
    let long = length-page columns cells page are room same in
    let all = part_behind 4064 page long ∙ same in
    let within : c.args.index < length cells = omega (arith, room, c.requires.index) in
    let some : IsSome (cell_at cells c.args.index) = sym (c.has_element_at.ensures cells are within all) ∙ c.if-not-has_element_at.false in
    let one = count_taken c.args.index cells within some in
    let counted : filled_count (without_row c.args.index cells) ≡ c.args.count - 1 = omega (arith, one, count) in
    (some, counted, c.set_count.ensures (without_row c.args.index cells) counted (behind_put 4064 page c.empty_cell.new.behind long ∙ c.empty_cell.ensures cells are within all))
