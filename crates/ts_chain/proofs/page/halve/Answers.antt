-- The new element goes to the half that its stamp belongs to.
use Rattle.std.proofs.Common.{◌≡◌, ◌+◌, ◌-◌, ◌/◌, ◌≤◌, ℕ, List, length, take, drop, sym, ap, ◌∙◌, arith, length-drop}
use Rattle.std.proofs.lemmas.List.{length-take-le}
use Rattle.ts_row.specs.declared.kind.Column.{Column}
use Rattle.ts_cells.specs.IrregularPage.{page_room, irregular_page}
use Rattle.ts_cells.proofs.HeadLemmas.{irregular_behind}
use Rattle.ts_irregular.specs.Edit.{with_element}
use Rattle.ts_sheets.proofs.OrderLemmas.{order_first, order_others}
use Rattle.ts_chain.proofs.SplitLemmas.{first_search, others_search, first_half, others_half}
use Rattle.ts_chain.proofs.page.halve.Goals as goal

pub returns-then-index-half-clause-half : goal.returns-then-index-half-clause-half
returns-then-index-half-clause-half c = λ es order count missing same.
    let columns : List Column = c.args.shelf.now.kind.now.columns in
    let slot : ℕ = c.args.shelf.now.series in
    let half : ℕ = (page_room columns + 1) / 2 in
    let k : ℕ = (c.page_room-room.result + 1) / 2 - 1 in
    let is : (c.page_room-room.result + 1) / 2 ≡ half = ap (λ (n : ℕ). (n + 1) / 2) c.page_room-room.ensures.value in
    let low : c.args.index ≤ k = omega arith in
    let whole : length es ≡ c.page_room-room.result = count ∙ sym c.page_room-room.ensures.value in
    let within : k ≤ length es = omega (arith, whole) in
    let first = c.first_of.ensures es order.each whole same in
    let halves = first_half c.args.stamp c.args.row.now es c.args.index k half order.rising missing within low (omega (arith, is)) in
    c.insert_into.ensures (take k es) (order_first columns k es order) (length-take-le k es within)
    (first_search c.args.stamp c.args.row.now es c.args.index k order.rising missing within low)
    (ap (drop 32) first ∙ irregular_behind slot columns (take k es))
    ∙ ap (irregular_page slot columns) (sym halves.0)

pub returns-then-index-half-clause-others : goal.returns-then-index-half-clause-others
returns-then-index-half-clause-others c = λ es order count missing same.
    let columns : List Column = c.args.shelf.now.kind.now.columns in
    let slot : ℕ = c.args.shelf.now.series in
    let half : ℕ = (page_room columns + 1) / 2 in
    let k : ℕ = (c.page_room-room.result + 1) / 2 - 1 in
    let is : (c.page_room-room.result + 1) / 2 ≡ half = ap (λ (n : ℕ). (n + 1) / 2) c.page_room-room.ensures.value in
    let low : c.args.index ≤ k = omega arith in
    let whole : length es ≡ c.page_room-room.result = count ∙ sym c.page_room-room.ensures.value in
    let within : k ≤ length es = omega (arith, whole) in
    let halves = first_half c.args.stamp c.args.row.now es c.args.index k half order.rising missing within low (omega (arith, is)) in
    c.others_of.ensures es order.each whole same ∙ ap (irregular_page slot columns) (sym halves.1)

pub returns-else-index-half-clause-half : goal.returns-else-index-half-clause-half
returns-else-index-half-clause-half c = λ es order count missing same.
    let columns : List Column = c.args.shelf.now.kind.now.columns in
    let slot : ℕ = c.args.shelf.now.series in
    let half : ℕ = (page_room columns + 1) / 2 in
    let k : ℕ = (c.page_room-room.result + 1) / 2 in
    let is : k ≡ half = ap (λ (n : ℕ). (n + 1) / 2) c.page_room-room.ensures.value in
    let high : k ≤ c.args.index = omega arith in
    let whole : length es ≡ c.page_room-room.result = count ∙ sym c.page_room-room.ensures.value in
    let within : k ≤ length es = omega (arith, whole, c.requires.room) in
    let halves = others_half c.args.stamp c.args.row.now es c.args.index k order.rising missing within high in
    c.first_of-else-index-half.ensures es order.each whole same ∙ ap (irregular_page slot columns) (sym halves.0)
    ∙ ap (λ (n : ℕ). irregular_page slot columns (take n (with_element c.args.stamp c.args.row.now es))) is

pub returns-else-index-half-clause-others : goal.returns-else-index-half-clause-others
returns-else-index-half-clause-others c = λ es order count missing same.
    let columns : List Column = c.args.shelf.now.kind.now.columns in
    let slot : ℕ = c.args.shelf.now.series in
    let half : ℕ = (page_room columns + 1) / 2 in
    let k : ℕ = (c.page_room-room.result + 1) / 2 in
    let is : k ≡ half = ap (λ (n : ℕ). (n + 1) / 2) c.page_room-room.ensures.value in
    let high : k ≤ c.args.index = omega arith in
    let whole : length es ≡ c.page_room-room.result = count ∙ sym c.page_room-room.ensures.value in
    let within : k ≤ length es = omega (arith, whole, c.requires.room) in
    let others = c.others_of-else-index-half.ensures es order.each whole same in
    let halves = others_half c.args.stamp c.args.row.now es c.args.index k order.rising missing within high in
    c.insert_into-else-index-half.ensures (drop k es) (order_others columns k es order) (omega (arith, length-drop k es, whole))
    (others_search c.args.stamp c.args.row.now es c.args.index k order.rising missing within high)
    (ap (drop 32) others ∙ irregular_behind slot columns (drop k es))
    ∙ ap (irregular_page slot columns) (sym halves.1)
    ∙ ap (λ (n : ℕ). irregular_page slot columns (drop n (with_element c.args.stamp c.args.row.now es))) is
