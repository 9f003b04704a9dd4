-- Whatever script is read, its commands are formed, and so what a run of it is at has catalogues.
use Rattle.std.specs.Prelude.{ℕ, List, ◌++◌}
use Rattle.std.specs.List.{AllByRecursion}
use Rattle.ts_command.specs.Grammar.{requests, last_request}
use Rattle.ts_answer.specs.Answer.{State}
use Rattle.ts_answer_laws.specs.TransactionLaws.{behind}
use Rattle.ts_catalogue_laws.specs.Commands.{IsFormed}
use Rattle.ts_catalogue_laws.specs.Laws.{HasCatalogues}

-- each request of a script is formed
abbrev pub ScriptsAreFormed : Type 0
ScriptsAreFormed = (script : List ℕ) → AllByRecursion IsFormed (requests script ++ last_request script)

-- a run that is at catalogues is at catalogues behind any script
abbrev pub ScriptsKeepCatalogues : Type 0
ScriptsKeepCatalogues = (state : State) (script : List ℕ) → HasCatalogues state
    → HasCatalogues (behind state (requests script ++ last_request script))
