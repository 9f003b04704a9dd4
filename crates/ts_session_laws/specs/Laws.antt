-- What the laws say of sessions and of runs that are alone.
use Rattle.std.specs.Prelude.{◌≡◌, ◌≢◌, ◌-◌, ◌<◌, ◌≤◌, ℕ, None, Some, List, [], ◌∷◌, ◌++◌, length, map, All, Ok, Err}
use Rattle.ts_command.specs.declared.command.Command.TheVariants as commands
use Rattle.ts_command.specs.declared.boundary.Boundary.TheVariants.{Alone}
use Rattle.ts_command.specs.Boundary.{boundary_of}
use Rattle.ts_command.specs.Grammar.{Request}
use Rattle.ts_model.specs.Catalogue.{Catalogue}
use Rattle.ts_multi.specs.Schedule.{items_of}
use Rattle.ts_answer.specs.Answer.{resting, committed, run_answer}
use Rattle.ts_answer_laws.specs.TransactionLaws.{IsPlain, said_to, behind}
use Rattle.ts_sessions.specs.Machine.{Machine, start, latest, snapshot_at}
use Rattle.ts_sessions.specs.Steps.{Turn, session_line, machine_answer}
use Rattle.ts_sessions.specs.Turns.{replies_by, behind_all, replies_to}

-- From a Begin on a session is answered as if it were alone on what was committed by then, until it ends the
-- transaction: what other sessions do between its turns plays no part.
abbrev pub SnapshotsAreRuns : Type 0
SnapshotsAreRuns =
    (m : Machine) (who : ℕ) (turns : List Turn) → 0 < who → who ≤ length m.sessions → snapshot_at (who - 1) m ≡ None
    → All (λ turn. 0 < turn.0) turns → All IsPlain (items_of who turns)
    → replies_to who m ((who, Ok commands.Begin) ∷ turns)
    ≡ said_to (resting (latest m)) (Ok commands.Begin ∷ items_of who turns)

-- a request that a session may make: none of a rolling routine
abbrev pub IsOfSessions : Request → Type 0
IsOfSessions (Ok command) = boundary_of command ≢ Some Alone
IsOfSessions (Err refusal) = Unit {0}

-- A session whose turns alone there are is answered as a run of its requests is, each reply behind the session's line,
-- and leaves the same catalogue.
pub record OneSessionIsARun (count : ℕ) (cat : Catalogue) (who : ℕ) (requests : List Request) : Type 0 where
  pub said : replies_by machine_answer (start count cat) (map (λ request. (who, request)) requests)
      ≡ map (λ reply. session_line who ++ reply) (said_to (resting cat) requests)
  pub left : latest (behind_all machine_answer (start count cat) (map (λ request. (who, request)) requests))
      ≡ committed (behind (resting cat) requests)
