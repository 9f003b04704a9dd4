-- Sessions as what carries their turns out: when they can go on, and when they stand at a machine.
use Rattle.std.specs.Prelude.{ℕ, ◌+◌, Bool}
use Rattle.ts_command.specs.Grammar.{Request}
use Rattle.ts_replies.specs.Acknowledged.{Protocol}
use Rattle.ts_volume.specs.Volume.{MeansCatalogue}
use Rattle.ts_sessions.specs.Machine.{Machine}
use Rattle.ts_sessions.specs.Steps.{Turn}
use Rattle.ts_sessions.specs.Turns.{sessions_by}
use Rattle.ts_carriers.specs.Run.{Carrier}
use Rattle.ts_session_turns.specs.Hand.{Hand, IsHandReady, IsAtMachine}

-- how the turns of sessions are answered; an image means the catalogue behind all commits
abbrev pub sessions : Protocol Machine Turn
sessions = sessions_by MeansCatalogue

-- an engine, views and a log carry them out
abbrev pub by_sessions : Bool → Carrier Hand Machine
by_sessions tells = record { tells = tells; ready = IsHandReady tells; stands = λ h m d. IsAtMachine tells h m d }

-- a session, counted from 0, and its request
abbrev pub turn_of : ℕ → Request → Turn
turn_of who request = (who + 1, request)
