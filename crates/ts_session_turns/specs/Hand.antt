-- What carries sessions out, and when it stands at a machine.
use Rattle.std.specs.Prelude.{◌≡◌, ℕ, Bool, Option, Some, None, is_some, List, length}
use Rattle.ts_disk.specs.Device.{Device}
use Rattle.ts_page.specs.Pages.{Contents}
use Rattle.ts_multi.specs.Log.{Log, pending_at}
use Rattle.ts_answer.specs.Answer.{resting}
use Rattle.ts_sessions.specs.Machine.{Snapshot, Machine, latest, seen, snapshot_at}
use Rattle.ts_sessions.specs.LogOf.{log_of}
use Rattle.ts_sessions.specs.Laws.{IsSound}
use Rattle.ts_views.specs.declared.view.View.{View}
use Rattle.ts_views.specs.View.{view_of, OfEachOpen}
use Rattle.ts_view_catalogues.specs.Catalogues.{ViewMeans}
use Rattle.ts_session_engine.specs.Engine.{Kept, IsAt}
use Rattle.ts_session_engine.specs.Beside.{newest, AreBeside}
use Rattle.ts_session_engine.specs.Committed.{AreCommands}

-- an engine, the view of each session that has a transaction, and what is kept of the commits
pub record Hand : Type 0 where
  pub engine : Kept
  pub views : List (Option View)
  pub log : Log

abbrev pub hand : Kept → List (Option View) → Log → Hand
hand engine views log = record { engine = engine; views = views; log = log }

-- On every volume: the engine has no transaction, commands can be carried out on each open view, a view is open exactly
-- where the log has a transaction, and its commands are such as a transaction may have.
pub record IsHandReady (tells : Bool) (h : Hand) (d : Device) : Type 0 where
  pub beside : AreBeside tells h.engine h.views d
  pub count : length h.log.sessions ≡ length h.views
  pub alike : (who : ℕ) → is_some (pending_at who h.log) ≡ is_some (view_of who h.views)
  pub commands : OfEachOpen (λ v. AreCommands v.commands.items) h.views

-- The view of a session means what its transaction sees, and has its commands; without a transaction it is closed.
abbrev pub ShowsSnapshot : Machine → Contents → Option View → Option Snapshot → Type 0
ShowsSnapshot m pages None None = Unit {0}
ShowsSnapshot m pages None (Some s) = ⊥
ShowsSnapshot m pages (Some v) None = ⊥
ShowsSnapshot m pages (Some v) (Some s) = (v.commands.items ≡ s.commands) × ViewMeans v pages (seen m s)

-- What is in hand stands at a machine: the engine at the catalogue behind all commits, each view at its transaction,
-- and the log is that of the machine.
pub record IsAtMachine (tells : Bool) (h : Hand) (m : Machine) (d : Device) : Type 0 where
  pub at : IsAt tells h.engine (resting (latest m)) d
  pub log : (room : Bool) × (h.log ≡ log_of room m)
  pub views : (who : ℕ) → ShowsSnapshot m (newest h.engine d) (view_of who h.views) (snapshot_at who m)
  pub sound : IsSound m
