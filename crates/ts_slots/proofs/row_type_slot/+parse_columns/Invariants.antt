-- Each step goes on with one column less.
use Rattle.ts_slots.proofs.row_type_slot.+parse_columns.Given as goal

abbrev pub decreases-parse_columns : goal.decreases-parse_columns
decreases-parse_columns l = l.count
