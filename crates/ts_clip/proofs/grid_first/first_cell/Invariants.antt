-- No cell before the index has an element that isn't hidden.
use Rattle.std.proofs.Common.{◌≡◌, ◌<◌, ℕ, false}
use Rattle.ts_regular.specs.RegularPage.{HoldsOfCells}
use Rattle.ts_regular.specs.OnePage.{cell_at, is_seen}
use Rattle.ts_clip.proofs.grid_first.first_cell.Given as goal

abbrev pub invariant-loop-index : goal.invariant-loop-index
invariant-loop-index l = HoldsOfCells l.kind.columns l.behind (λ cells. (other : ℕ) → other < l.index → is_seen (cell_at cells other) ≡ false)
