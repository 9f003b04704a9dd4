use Rattle.std.proofs.Common.{◌++◌, length}
use Rattle.ts_combine.specs.Series.{side_of}
use Rattle.ts_entry.specs.Entry.{elements_in}
use Rattle.ts_combine.specs.Call.{joined_row, row_at}
use Rattle.ts_answer.specs.Reply.{element_line}
use Rattle.ts_combined_rows.proofs.SaidRowsLemmas.{said_more, said_all, row_fits, joined_line}
use Rattle.ts_combined_rows.proofs.rows.say_rows.Goals as goal

pub loop-row-preserved : goal.loop-row-preserved
loop-row-preserved c fit fit' =
    let first = c.args.first.now in
    let second = c.args.second.now in
    let one = row_fits c.args.first_kind.now.columns (elements_in first.elems.now) c.row-item.result.first c.row_at-one.result c.row_at-one.ensures fit in
    let other = row_fits c.args.second_kind.now.columns (elements_in second.elems.now) c.row-item.result.second c.row_at-other.result c.row_at-other.ensures fit' in
    said_more (element_line (c.args.first_kind.now.columns ++ c.args.second_kind.now.columns)) (joined_row (side_of first) (side_of second)) c.args.rows.now c.loop-row.row-index c.row-item.result c.args.out.now c.loop-row.out c.say_joined.new.out
    c.loop-row-test.true c.row-item.is (c.loop-row.invariant fit fit')
    (joined_line (element_line (c.args.first_kind.now.columns ++ c.args.second_kind.now.columns)) c.row-item.result.stamp (length c.args.first_kind.now.columns) (length c.args.second_kind.now.columns) first.columns second.columns
    _ _ (row_at (elements_in first.elems.now) c.row-item.result.first) (row_at (elements_in second.elems.now) c.row-item.result.second) c.loop-row.out c.say_joined.new.out (c.in_ok-say_joined.ensures.ok one other) c.requires.first c.requires.second
    c.row_at-one.ensures c.row_at-other.ensures)

pub returns : goal.returns
returns c = λ fit fit'.
    said_all (element_line (c.args.first_kind.now.columns ++ c.args.second_kind.now.columns)) (joined_row (side_of c.args.first.now) (side_of c.args.second.now)) c.args.rows.now c.loop-row.row-index
    c.args.out.now c.loop-row.out c.loop-row-test.false (c.loop-row.invariant fit fit')
