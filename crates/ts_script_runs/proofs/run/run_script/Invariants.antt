use Rattle.std.proofs.Common.{◌≡◌, ◌+◌, ◌-◌, ◌≤◌, ◌++◌, ℕ, IsTrue, List, [], length, Some, Ok}
use Rattle.ts_items.specs.Items.{place_from}
use Rattle.ts_command.specs.Grammar.{requests}
use Rattle.ts_opening.specs.Engine.{IsReady}
use Rattle.ts_script_runs.specs.Script.{script, by_engine}
use Rattle.ts_opening.proofs.CallerLemmas.{IsOnce}
use Rattle.ts_carriers.specs.Run.{Ran}
use Rattle.ts_script_runs.proofs.run.run_script.Given as goal

abbrev pub invariant-loop-session : goal.invariant-loop-session
invariant-loop-session g l = record {
  within : l.count ≤ 268435456;
  faults : (g.R.Source.input l.source).pull_faults ≡ (g.R.Source.input l.fn.source).pull_faults;
  pulls : (g.R.Source.input l.source).pulls ≤ (g.R.Source.input l.fn.source).pulls + l.count;
  live : IsOnce (g.R.Source.input l.fn.source) (g.R.Source.input l.source);
  ready : IsReady g.S.Volume.tells l.session.engine (g.S.Volume.device l.site);
  run : (taken : List ℕ) × (length taken ≡ l.count) × (l.session.reader.place ≡ place_from (Some []) taken) × (IsTrue g.R.Source.tells → (g.R.Source.input l.fn.source).left ≡ taken ++ (g.R.Source.input l.source).left)
      × Ran (by_engine g.S.Volume.tells) script (requests taken) (Ok (tt {0})) l.fn.session.engine l.session.engine (g.S.Volume.device l.fn.site) (g.S.Volume.device l.site);
}

abbrev pub decreases-loop-session : goal.decreases-loop-session
decreases-loop-session g l = 268435456 - l.count
