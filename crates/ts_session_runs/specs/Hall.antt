-- What the sessions of a source have in hand, and how a turn goes.
use Rattle.std.specs.Prelude.{◌≡◌, ℕ, ◌+◌, ◌≤◌, Bool, Result, Ok, OnOk, List, ◌++◌, length, drop}
use Rattle.ts_disk.specs.Device.{Device}
use Rattle.ts_items.specs.Items.{Item}
use Rattle.ts_multi.specs.Schedule.{order, total}
use Rattle.ts_sessions.specs.Steps.{Turn}
use Rattle.ts_carriers.specs.declared.fault.RunFault.{RunFault}
use Rattle.ts_carriers.specs.Run.{Ran}
use Rattle.ts_session_scripts.specs.Script.{requests_left}
use Rattle.ts_session_turns.specs.Hand.{Hand}
use Rattle.ts_session_runs.specs.Carrier.{sessions, by_sessions}

-- One turn, or several: a run of them. On every volume there are as many sessions as before, and at most one commit
-- more for each turn.
pub record TurnsRan (tells : Bool) (turns : List Turn) (result : Result Unit RunFault) (h k : Hand)
    (v w : Device) : Type 0 where
  pub ran : Ran (by_sessions tells) sessions turns result h k v w
  pub count : OnOk result (length k.views ≡ length h.views)
  pub few : length k.log.commits ≤ length h.log.commits + length turns

-- The turns of so many picks were carried out, and these items are left, with the engine, the views and the log in this
-- state: what holds between two turns.
pub record IsBehindTurns (tells : Bool) (scripts : List (List Item)) (picks : List ℕ) (index : ℕ) (left : List (List Item))
    (h k : Hand) (v w : Device) : Type 0 where
  pub so_far : List Turn
  -- what these picks come to, and what the others come to over what is left
  pub asked : order (requests_left scripts) picks ≡ so_far ++ order (requests_left left) (drop index picks)
  pub turns : TurnsRan tells so_far (Ok tt) h k v w
  pub count : length left ≡ length scripts
  -- each turn took an item
  pub taken : length so_far + total left ≡ total scripts
