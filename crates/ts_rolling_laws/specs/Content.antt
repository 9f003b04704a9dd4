-- What a rolling set has after any puts and other commands.
use Rattle.std.specs.Prelude.{◌≡◌, ◌⊎◌, ℕ, ◌<◌, ◌≤◌, true, Option, Some, None, is_some, ℤ, List, [], ◌∷◌, ◌++◌}
use Rattle.std.specs.Prelude.{Contains, Ok, pos}
use Rattle.std.specs.List.{AllByRecursion}
use Rattle.std.specs.FinMap.{get}
use Rattle.ts_row.specs.declared.value.Literal.{Literal}
use Rattle.ts_row.specs.Row.{Row, Element}
use Rattle.ts_calendar.specs.Calendars.{CalendarPlan, IsLaid}
use Rattle.ts_offset.specs.Grid.{GridPlan, grid_of}
use Rattle.ts_command.specs.declared.command.Command.{Command}
use Rattle.ts_command.specs.declared.command.Command.TheVariants as commands
use Rattle.ts_command.specs.Form.{HasForm}
use Rattle.ts_model.specs.declared.kind.Kind.TheVariants as kinds
use Rattle.ts_model.specs.Catalogue.{Series, Catalogue, columns_of}
use Rattle.ts_rolling.specs.Sets.{is_set, most_windows, most_kept, window_key, read_window, read_control, control_of}
use Rattle.ts_rolling.specs.Sets.{window_elements}
use Rattle.ts_rolling.specs.SetLaws.{window_in}
use Rattle.ts_rolling.specs.Kept.{kept}
use Rattle.ts_answer.specs.Answer.{Tried, Answered, outcome, answer, a_row, a_calendar}
use Rattle.ts_multi.specs.declared.object.Object.{Object}
use Rattle.ts_multi.specs.Touched.{object, objects}
use Rattle.ts_answer_laws.specs.Objects.{Leaves, set_of}

-- the elements in the windows of a control, if there is one
abbrev pub content_by : List ℕ → Option (ℕ × Series) → Catalogue → List Element
content_by set None cat = []
content_by set (Some control) cat = window_elements set control.1.container cat

-- what RollingClip lists over all stamps
abbrev pub content : List ℕ → Catalogue → List Element
content set cat = content_by set (control_of set cat) cat

-- a command that comes while a set is watched: a RollingPut of it, or another one
pub data Deed : Type 0 where
  Put : ℤ → List Literal → Deed
  Other : Command → Deed

abbrev pub command_of : List ℕ → Deed → Command
command_of set (Put stamp literals) = commands.RollingPut set stamp literals
command_of set (Other command) = command

-- the catalogue after it
abbrev pub done : List ℕ → Deed → Catalogue → Catalogue
done set deed cat = (answer cat (Ok (command_of set deed))).1

-- the catalogue after some, one behind the other
abbrev pub all_done : List ℕ → List Deed → Catalogue → Catalogue
all_done set [] cat = cat
all_done set (deed ∷ deeds) cat = all_done set deeds (done set deed cat)

-- what was put, where a put is accepted
abbrev pub put_if_any : ℤ → Tried Row → Tried Answered → List Element
put_if_any stamp (Ok row) (Ok answered) = (stamp, row) ∷ []
put_if_any stamp row answered = []

-- the row of literals by the columns of a set's control
abbrev pub row_by : Option (ℕ × Series) → List Literal → Catalogue → Tried Row
row_by None literals cat = a_row [] literals
row_by (Some control) literals cat = a_row (columns_of cat control.1) literals

-- the same of any command: only a put of the set puts
abbrev pub put_by : List ℕ → Deed → Catalogue → List Element
put_by set (Put stamp literals) cat =
    put_if_any stamp (row_by (control_of set cat) literals cat)
    (outcome (Ok (commands.RollingPut set stamp literals)) cat)
put_by set (Other command) cat = []

-- all accepted puts, in order
abbrev pub all_puts : List ℕ → List Deed → Catalogue → List Element
all_puts set [] cat = []
all_puts set (deed ∷ deeds) cat = put_by set deed cat ++ all_puts set deeds (done set deed cat)

-- a key of a window or of a control of a set
abbrev pub IsOfSet : List ℕ → List ℕ → Type 0
IsOfSet set key = (is_some (read_window key set) ≡ true) ⊎ (is_some (read_control key set) ≡ true)

-- a command is of another set, or of none and writes no series of this one
abbrev pub IsAside : List ℕ → Option (List ℕ) → Command → Type 0
IsAside set (Some other) command = HasForm command × (other ≡ set → ⊥)
IsAside set None command = (key : List ℕ) → IsOfSet set key
    → ¬ Contains (objects command).wrote (object kinds.Series key)

-- a put may come, and other commands aside
abbrev pub Avoids : List ℕ → Deed → Type 0
Avoids set (Put stamp literals) = Unit {0}
Avoids set (Other command) = IsAside set (set_of command) command

-- A command of a rolling set leaves all but series whose keys are of the set.
abbrev pub SetsStay : Type 0
SetsStay =
    (cat : Catalogue) (command : Command) (set : List ℕ) → HasForm command → set_of command ≡ Some set
    → Leaves (λ o. (o.kind ≡ kinds.Series) × IsOfSet set o.name) cat (answer cat (Ok command)).1

-- no series of the container is a window of the set
abbrev pub HasNoWindows : List ℕ → List ℕ → Catalogue → Type 0
HasNoWindows set container cat = (j : ℕ) → j < most_windows
    → window_in container (get cat.series (window_key set j)) ≡ None

-- A set that was just made, where it had no windows yet.
pub record IsMade (set : List ℕ) (n : ℕ) (grid : GridPlan) (cat made : Catalogue) : Type 0 where
  pub calendar : List ℕ
  pub container : List ℕ
  pub origin : ℤ
  pub plan : CalendarPlan
  pub line : List ℕ
  pub named : is_set set ≡ true
  pub least : 1 ≤ n
  pub most : n ≤ most_kept
  pub found : a_calendar calendar cat ≡ Ok plan
  pub laid : IsLaid plan
  pub gridded : grid_of plan origin ≡ Ok grid
  pub created : outcome (Ok (commands.RollingCreate set calendar origin container (pos n))) cat ≡ Ok (line, made)
  pub none : HasNoWindows set container cat

-- Whatever puts of the set and other commands come, its content is what is kept of the accepted puts.
abbrev pub ContentIsKept : Type 0
ContentIsKept =
    (set : List ℕ) (n : ℕ) (grid : GridPlan) (cat made : Catalogue) (deeds : List Deed) → IsMade set n grid cat made
    → AllByRecursion (Avoids set) deeds → content set (all_done set deeds made) ≡ kept grid n (all_puts set deeds made)
