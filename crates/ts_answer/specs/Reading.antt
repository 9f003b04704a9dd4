-- What a command that only reads memory says.
use Rattle.std.specs.Prelude.{◌≡◌, ℕ, Result, Ok, List}
use Rattle.ts_base.specs.declared.fault.Trouble.{Trouble}
use Rattle.ts_command.specs.declared.command.Command.{Command}
use Rattle.ts_space.specs.Directory.{Directory}
use Rattle.ts_model.specs.Definitions.{Definitions}
use Rattle.ts_layout.specs.Meaning.{Layout, catalogue_of}
use Rattle.ts_layout.specs.Placed.{AreKept}
use Rattle.ts_answer.specs.Answer.{Answered, outcome}
use Rattle.ts_answer.specs.Tried.{IsTried}
use Rattle.ts_answer.specs.View.{IsHeldOf}

-- what is in memory keeps its rules, with some pages
abbrev pub IsKept : Definitions → Directory → Type 0
IsKept d space = (count : ℕ) × (free : List ℕ) × AreKept d space free count

-- the answer says this, and the catalogue stays
abbrev pub SaysOnly : List ℕ → Layout → Unit {0} → Answered → Type 0
SaysOnly out l done answered = answered ≡ (out, catalogue_of l)

-- it is what each layout answers that has what is in memory, whatever pages there are
abbrev pub IsSaid : Command → Result Unit Trouble → List ℕ → Definitions → Directory → Type 0
IsSaid command result out d space =
    (count : ℕ) (free : List ℕ) (l : Layout) → IsHeldOf d space count free l
    → IsTried result (outcome (Ok command) (catalogue_of l)) (SaysOnly out l)
