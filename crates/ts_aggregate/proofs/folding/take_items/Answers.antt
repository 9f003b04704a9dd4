use Rattle.std.proofs.Common.{◌≡◌, ℕ, ◌<◌, ◌≤◌, ◌^◌, ◌+◌, ◌-◌, List, length, get_or, length-set, ap, subst, ◌∙◌, arith}
use Rattle.std.proofs.lemmas.List.Elements.{All-set}
use Rattle.ts_row.specs.declared.kind.Column.{Column}
use Rattle.ts_expr.specs.declared.item.BoundItem.{BoundItem}
use Rattle.ts_expr.specs.declared.tally.Tally.{Tally}
use Rattle.ts_expr.specs.Running.{count_of}
use Rattle.ts_aggregate.specs.declared.cells.ValuePosition.{ValuePosition}
use Rattle.ts_aggregate.specs.KnownColumns.{IsKnown}
use Rattle.ts_aggregate.proofs.FoldingLemmas.{ItemTakes, an_item, item_takes, all_take, each_more, rest_more, position_of, position_within}
use Rattle.ts_aggregate.proofs.TurnLemmas.{few_cells}
use Rattle.ts_aggregate.proofs.KnownLemmas.{same_kind, same_read, known_again, item_known}
use Rattle.ts_aggregate.proofs.folding.take_items.Goals as goal

pub take_column-requires-clause-whole : goal.take_column-requires-clause-whole
take_column-requires-clause-whole c =
    let n = c.loop-number.number in
    let i : BoundItem = get_or c.args.items.now n an_item in
    let row_cells = c.args.row_cells in
    let cs : List Column = c.args.columns.now in
    let column : Column = get_or cs i.column c.index-columns-item.result in
    let within = position_within cs row_cells.front i.column c.width_before.result c.width.result column row_cells.size
    (c.requires.places n an_item c.loop-number-test.true)
    (ap (get_or cs i.column) c.index-columns-item.is) c.requires.whole.size c.width_before.ensures c.width.ensures in
    record { front = within.0; place = within.1; whole = c.requires.whole.whole }

pub take_column-requires-clause-few : goal.take_column-requires-clause-few
take_column-requires-clause-few c =
    let r = c.args.row_cells in
    omega (
      arith,
      few_cells r.left r.size (length r.bytes.now) (omega (arith, c.requires.whole.some, c.requires.whole.size)) c.requires.whole.whole,
      c.requires.whole.few,
    )

pub loop-number-preserved : goal.loop-number-preserved
loop-number-preserved c =
    let n = c.loop-number.number in
    let v = c.loop-number.invariant in
    let i : BoundItem = get_or c.args.items.now n an_item in
    let cs : List Column = c.args.columns.now in
    let row_cells = c.args.row_cells in
    let column : Column = get_or cs i.column c.index-columns-item.result in
    let was : Tally = get_or c.loop-number.tallies n c.index-tallies-number-in-loop-number.result in
    let s : ValuePosition =
    record {
      size = row_cells.size;
      front = row_cells.front;
      place = row_cells.front + c.width_before.result;
      width = c.width.result - 1;
    } in
    let new : Tally = c.take_column.new.tally in
    record {
      size = length-set c.loop-number.tallies n new ∙ v.size;
      few = All-set (λ (t : Tally). count_of t ≤ 2 ^ 32) c.loop-number.tallies n new c.in_ok-told.ensures.few v.few;
      taken = each_more (λ k. ItemTakes cs row_cells.front row_cells.bytes.now
          (get_or c.args.items.now k an_item)) c.args.tallies.now c.loop-number.tallies n was new
          (omega (arith, c.loop-number-test.true, v.size)) (ap (get_or c.loop-number.tallies n) c.index-tallies-number-in-loop-number.is) v.taken v.rest
          (item_takes cs row_cells.front column s row_cells.left row_cells.bytes.now i was new
          (position_of cs row_cells.front i.column c.width_before.result c.width.result column row_cells.size
          (c.requires.places n an_item c.loop-number-test.true)
          (ap (get_or cs i.column) c.index-columns-item.is) c.requires.whole.size c.width_before.ensures c.width.ensures)
          (omega (arith, c.requires.whole.some, c.requires.whole.size)) c.requires.whole.whole c.in_ok-told.ensures.value);
      known = known_again cs row_cells i.column c.loop-number.column c.told_column-column.result c.in_ok-told.told c.loop-number.totals
          c.take_column.new.totals column.kind _ c.told_column-column.ensures v.known c.in_ok-told.ensures.known c.in_ok-told.ensures.numbers
          c.in_ok-told.ensures.same
          (same_kind cs i.column column (c.requires.places n an_item c.loop-number-test.true) (ap (get_or cs i.column) c.index-columns-item.is))
          (same_read cs row_cells i.column c.width_before.result c.width.result column (c.requires.places n an_item c.loop-number-test.true)
          (ap (get_or cs i.column) c.index-columns-item.is) c.width_before.ensures c.width.ensures);
      rest = rest_more c.args.tallies.now c.loop-number.tallies n new v.rest;
    }

pub returns-clause-took : goal.returns-clause-took
returns-clause-took c =
    let v = c.loop-number.invariant in
    all_take c.args.columns.now c.args.row_cells.front c.args.row_cells.bytes.now
    c.args.items.now c.args.tallies.now c.loop-number.tallies v.size
    (λ k d within. v.taken k d (omega (arith, within, c.loop-number-test.false)))

pub loop-number-preserved-then-is_told : goal.loop-number-preserved-then-is_told
loop-number-preserved-then-is_told c =
    let n = c.loop-number.number in
    let v = c.loop-number.invariant in
    let i : BoundItem = get_or c.args.items.now n an_item in
    let cs : List Column = c.args.columns.now in
    let r = c.args.row_cells in
    let within : i.column < length cs = c.requires.places n an_item c.loop-number-test.true in
    let same : c.loop-number.column ≡ i.column = omega (arith, c.if-item-column.true) in
    let was : Tally = get_or c.loop-number.tallies n c.index-tallies-number-then-is_told.result in
    let new : Tally = c.take_totals.new.tally in
    record {
      size = length-set c.loop-number.tallies n new ∙ v.size;
      few = All-set (λ (t : Tally). count_of t ≤ 2 ^ 32) c.loop-number.tallies n new c.take_totals.ensures.few v.few;
      taken = each_more (λ k. ItemTakes cs r.front r.bytes.now (get_or c.args.items.now k an_item)) c.args.tallies.now c.loop-number.tallies
          n was new (omega (arith, c.loop-number-test.true, v.size))
          (ap (get_or c.loop-number.tallies n) c.index-tallies-number-then-is_told.is) v.taken v.rest
          (item_known cs r i was new c.loop-number.totals within c.requires.whole.size
          (omega (arith, c.requires.whole.some, c.requires.whole.size)) c.requires.whole.whole
          (subst (λ (m : ℕ). IsKnown cs r m c.loop-number.totals) same (v.known (omega (arith, within, same)))) c.take_totals.ensures.value);
      known = v.known;
      rest = rest_more c.args.tallies.now c.loop-number.tallies n new v.rest;
    }
