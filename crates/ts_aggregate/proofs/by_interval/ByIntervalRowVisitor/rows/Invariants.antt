-- The cells before those that are left are taken by their groups.
use Rattle.std.proofs.Common.{◌≡◌, ◌+◌, ◌*◌, ◌≤◌, Option, List, length}
use Rattle.ts_row.specs.Row.{Element}
use Rattle.ts_entry.specs.Rows.{AreCellsOf}
use Rattle.ts_aggregate.specs.Groups.{grouping, IsAhead}
use Rattle.ts_aggregate.proofs.TurnLemmas.{Turn}
use Rattle.ts_aggregate.proofs.by_interval.ByIntervalRowVisitor.rows.Given as goal

abbrev pub invariant-loop-left : goal.invariant-loop-left
invariant-loop-left g l = record {
  whole : length l.rest ≡ l.left * l.size;
  bound : l.number + l.left ≤ 4064;
  few : length l.rest ≤ 4064;
  same : l.self.out.ghost_name ≡ l.fn.self.out.ghost_name;
  ahead : IsAhead l.stamps l.number l.ahead;
  taken : (found : List (Option Element)) → AreCellsOf l.kind.columns l.front l.stamps l.cells found
      → Turn g.V.ElementVisitor.took l.kind.columns l.front l.number l.stamps l.rest found
      (grouping l.fn.self.wanted.now l.fn.self.reached.span l.fn.self.folding.now l.fn.self.count) l.fn.self.out.now
      (grouping l.self.wanted.now l.self.reached.span l.self.folding.now l.self.count) l.self.out.now;
}

abbrev pub decreases-loop-left : goal.decreases-loop-left
decreases-loop-left g l = l.left
