-- What the laws of transactions say, over requests that are answered one behind the other.
use Rattle.std.specs.Prelude.{◌≡◌, ◌⊎◌, ℕ, ◌+◌, ◌≤◌, ◌<◌, true, if◌then◌else◌, List, [], ◌∷◌, ◌++◌, None, Some, IsSome}
use Rattle.std.specs.Prelude.{IfSome, Ok, Err, pos}
use Rattle.ts_command.specs.declared.command.Command.{Command}
use Rattle.ts_command.specs.declared.command.Command.TheVariants as commands
use Rattle.ts_command.specs.declared.boundary.Boundary.TheVariants.{Commits}
use Rattle.ts_command.specs.Boundary.{boundary_of, is_writing}
use Rattle.ts_command.specs.Grammar.{Request}
use Rattle.ts_model.specs.Catalogue.{Catalogue}
use Rattle.ts_answer.specs.Reply.{ok_line, number_line}
use Rattle.ts_answer.specs.Answer.{outcome, answer, State, resting, committed, run_outcome, run_answer}

-- the replies to requests, and the state behind them
abbrev pub said_to : State → List Request → List (List ℕ)
said_to state [] = []
said_to state (request ∷ requests) = (run_answer state request).0 ∷ said_to (run_answer state request).1 requests

abbrev pub behind : State → List Request → State
behind state [] = state
behind state (request ∷ requests) = behind (run_answer state request).1 requests

-- A commit: a command that writes where no transaction is open, or the Commit of the one that is. It is accepted.
pub record IsCommit (state : State) (command : Command) : Type 0 where
  pub stepped : List ℕ × State
  pub accepted : run_outcome (Ok command) state ≡ Ok stepped
  pub is : ((state.transaction ≡ None) × (is_writing command ≡ true))
      ⊎ (IsSome state.transaction × (boundary_of command ≡ Some Commits))

abbrev pub AsksForCommit : State → Request → Type 0
AsksForCommit state (Ok command) = IsCommit state command
AsksForCommit state (Err refusal) = ⊥

-- what the volume means stays at every request that is no commit
abbrev pub OnlyCommitsMoveTheBase : Type 0
OnlyCommitsMoveTheBase =
    (state : State) (request : Request) → (committed (run_answer state request).1 ≡ committed state)
    ⊎ AsksForCommit state request

-- a request that opens no transaction and ends none
abbrev pub IsPlain : Request → Type 0
IsPlain (Ok command) = boundary_of command ≡ None
IsPlain (Err refusal) = Unit {0}

abbrev pub ArePlain : List Request → Type 0
ArePlain [] = Unit {0}
ArePlain (request ∷ requests) = IsPlain request × ArePlain requests

-- such requests in a transaction, and what ends it
abbrev pub within : List Request → Command → List Request
within requests end = Ok commands.Begin ∷ requests ++ Ok end ∷ []

-- Begin, such requests and Rollback lead back to the state before them
abbrev pub WhatIsRolledBackLeavesNothing : Type 0
WhatIsRolledBackLeavesNothing =
    (cat : Catalogue) (requests : List Request) → ArePlain requests
    → behind (resting cat) (within requests commands.Rollback) ≡ resting cat

-- one where the catalogue accepts a command that writes
abbrev pub counted_at : Catalogue → Request → ℕ
counted_at cat (Ok command) =
    elim (outcome (Ok command) cat) [ Ok answered ↦ (if is_writing command then 1 else 0) | Err refusal ↦ 0 ]
counted_at cat (Err refusal) = 0

-- how many of such requests are, one behind the other
abbrev pub accepted_of : Catalogue → List Request → ℕ
accepted_of cat [] = 0
accepted_of cat (request ∷ requests) = counted_at cat request + accepted_of (answer cat request).1 requests

-- a command that writes comes while fewer than 32 of those before it were accepted, behind so many
abbrev pub HasPlace : ℕ → Request → Type 0
HasPlace count (Ok command) = is_writing command ≡ true → count < 32
HasPlace count (Err refusal) = Unit {0}

abbrev pub HavePlaces : ℕ → Catalogue → List Request → Type 0
HavePlaces count cat [] = Unit {0}
HavePlaces count cat (request ∷ requests) = HasPlace count request
    × HavePlaces (count + counted_at cat request) (answer cat request).1 requests

-- Between Begin and Commit each such request has the reply that it has without these, Commit says how many were
-- accepted that write, and the state behind is the same.
pub record WhatIsCommittedIsMade : Type 0 where
  pub said : (cat : Catalogue) (requests : List Request) → ArePlain requests → HavePlaces 0 cat requests
      → said_to (resting cat) (within requests commands.Commit)
      ≡ ok_line ∷ said_to (resting cat) requests ++ number_line (pos (accepted_of cat requests)) ∷ []
  pub same : (cat : Catalogue) (requests : List Request) → ArePlain requests → HavePlaces 0 cat requests
      → behind (resting cat) (within requests commands.Commit) ≡ behind (resting cat) requests

-- a transaction has at most 32 accepted commands that write
abbrev pub IsFew : State → Type 0
IsFew state = IfSome state.transaction (λ t. t.accepted ≤ 32)

-- and none gets more, whatever is asked
abbrev pub TransactionsAreNeverOverfull : Type 0
TransactionsAreNeverOverfull = (state : State) (request : Request) → IsFew state → IsFew (run_answer state request).1
