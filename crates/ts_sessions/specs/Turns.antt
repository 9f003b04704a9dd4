-- A run of sessions: their requests in the order of their turns, the replies to these, and what a stop may leave.
use Rattle.std.specs.Prelude.{ℕ, ◌==◌, if◌then◌else◌, List, [], ◌∷◌, ◌++◌, map, option_map}
use Rattle.ts_items.specs.Items.{items_to_end}
use Rattle.ts_command.specs.Grammar.{Request, request_of}
use Rattle.ts_model.specs.Catalogue.{Catalogue}
use Rattle.ts_multi.specs.Schedule.{order}
use Rattle.ts_replies.specs.Acknowledged.{Answer, Protocol}
use Rattle.ts_answer.specs.Answer.{stand_in}
use Rattle.ts_sessions.specs.Machine.{Machine, latest}
use Rattle.ts_sessions.specs.Steps.{Turn, session_line, machine_step, machine_answer}

-- what the script of a session asks for
abbrev pub requests_of : List ℕ → List Request
requests_of section = map request_of (items_to_end section)

-- what the scripts of all sessions ask for, in the order of their turns; the picks decide it
abbrev pub turns : List (List ℕ) → List ℕ → List Turn
turns sections picks = order (map requests_of sections) picks

-- the replies to items, one behind the other, and what stands behind them
abbrev pub replies_by : {C I : Type 0} → Answer C I → C → List I → List (List ℕ)
replies_by answer state [] = []
replies_by answer state (item ∷ items) = (answer state item).0 ∷ replies_by answer (answer state item).1 items

abbrev pub behind_all : {C I : Type 0} → Answer C I → C → List I → C
behind_all answer state [] = state
behind_all answer state (item ∷ items) = behind_all answer (answer state item).1 items

-- the replies to the requests of one session among them, without the line before each
abbrev pub replies_to : ℕ → Machine → List Turn → List (List ℕ)
replies_to who m [] = []
replies_to who m (turn ∷ rest) =
    if turn.0 == who then (machine_step m turn).0 ∷ replies_to who (machine_step m turn).1 rest
    else replies_to who (machine_step m turn).1 rest

-- How the turns of sessions are answered, over what an image means. It means the catalogue behind all commits.
abbrev pub sessions_by : (List ℕ → Catalogue → Type 0) → Protocol Machine Turn
sessions_by means = record {
  answer = machine_answer;
  stand_in = λ turn. option_map (λ line. session_line turn.0 ++ line) (stand_in turn.1);
  means = λ image m. means image (latest m);
}
