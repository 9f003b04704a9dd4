use Rattle.std.proofs.Common.{◌≡◌, ◌++◌, ℕ, List, length, Ok}
use Rattle.ts_items.specs.Items.{place_from}
use Rattle.ts_opening.specs.Engine.{IsReady}
use Rattle.ts_script_runs.specs.Script.{script, by_engine, requests_from}
use Rattle.ts_carriers.specs.Run.{Ran}
use Rattle.ts_script_runs.proofs.session.Session.carry_out_piece.Given as goal

abbrev pub invariant-loop-rest : goal.invariant-loop-rest
invariant-loop-rest g l = record {
  ready : IsReady g.S.Volume.tells l.self.engine (g.S.Volume.device l.site);
  read : (front : List ℕ) × (l.piece ≡ front ++ l.rest) × (l.self.reader.place ≡ place_from l.fn.self.reader.place front)
      × Ran (by_engine g.S.Volume.tells) script (requests_from l.fn.self.reader.place front) (Ok (tt {0})) l.fn.self.engine l.self.engine (g.S.Volume.device l.fn.site) (g.S.Volume.device l.site);
}

abbrev pub decreases-loop-rest : goal.decreases-loop-rest
decreases-loop-rest g l = length l.rest
