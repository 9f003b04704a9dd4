-- What the migration of a volume does.
use Rattle.std.specs.Prelude.{◌≡◌, Bool, Result, OnOk}
use Rattle.ts_disk.specs.Device.{Device}
use Rattle.ts_model.specs.Catalogue.{in_newest_format, newest_format}
use Rattle.ts_answer.specs.Answer.{State, resting, committed}
use Rattle.ts_engine.specs.declared.fault.StepFault.{StepFault}
use Rattle.ts_engine.specs.Engine.{Kept}
use Rattle.ts_engine.specs.Moves.{Moves}

-- the state once what the volume means is in the newest format, and no transaction is open
abbrev pub state_renewed : State → State
state_renewed state = resting (in_newest_format (committed state))

-- what an engine does that no call of the disk's failed before
pub record Migrated (tells : Bool) (result : Result Unit StepFault) (e f : Kept) (v w : Device) : Type 0 where
  -- it goes to the same catalogue in the newest format
  pub moves : Moves tells state_renewed result e f v w
  -- and is of that format from then on
  pub newest : OnOk result (f.tables.definitions.format ≡ newest_format)
