-- What of all puts a rolling set keeps.
use Rattle.std.specs.Prelude.{ℕ, not, ℤ, List, map, filter}
use Rattle.std.specs.List.{fold}
use Rattle.std.specs.Result.{result_unwrap_or}
use Rattle.std.specs.FinMap.{empty, entries, insert}
use Rattle.ts_row.specs.Row.{Element}
use Rattle.ts_model.specs.Catalogue.{Elements}
use Rattle.ts_offset.specs.Grid.{GridPlan, offset_of}
use Rattle.ts_rolling.specs.Sets.{greatest, is_old}

-- the window of a stamp
abbrev pub window_of : GridPlan → ℤ → ℕ
window_of grid stamp = result_unwrap_or (offset_of grid stamp) 0

-- the greatest window of all puts
abbrev pub newest_put : GridPlan → List Element → ℕ
newest_put grid puts = greatest (map (λ e. window_of grid e.0) puts)

-- each stamp with the last row that was put there
abbrev pub last_puts : List Element → Elements
last_puts puts = fold (λ m e. insert m e.0 e.1) empty puts

-- The last put of each stamp, in the order of stamps: of those whose window is one of the last n that end with the
-- greatest window of all puts.
unfoldable pub kept : GridPlan → ℕ → List Element → List Element
kept grid n puts = filter (λ e. not (is_old n (newest_put grid puts) (window_of grid e.0))) (entries (last_puts puts))
