-- The rows so far are said, where the rows of both series fit.
use Rattle.std.proofs.Common.{◌≡◌, ◌++◌, map, take}
use Rattle.std.specs.List.{flat_map}
use Rattle.ts_combine.specs.Series.{side_of}
use Rattle.ts_entry.specs.Entry.{elements_in}
use Rattle.ts_combine.specs.Call.{joined_row}
use Rattle.ts_answer.specs.Reply.{element_line}
use Rattle.ts_combined_rows.specs.Combining.{AllFit}
use Rattle.ts_combined_rows.proofs.rows.say_rows.Given as goal

abbrev pub invariant-loop-row : goal.invariant-loop-row
invariant-loop-row l = AllFit l.first_kind.columns (elements_in l.first.elems.now) → AllFit l.second_kind.columns (elements_in l.second.elems.now)
    → l.out ≡ l.fn.out ++ flat_map (element_line (l.first_kind.columns ++ l.second_kind.columns)) (map (joined_row (side_of l.first) (side_of l.second)) (take l.row-index l.rows))
