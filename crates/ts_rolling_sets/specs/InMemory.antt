-- What is in memory of a rolling set: its control and its windows among the definitions, in the order of their keys.
use Rattle.std.specs.Prelude.{◌≡◌, ℕ, ◌==◌, ◌&&◌, is_none, if◌then◌else◌, option_and_then, option_map, Option, Some, None, List}
use Rattle.std.specs.List.{filter_map}
use Rattle.std.specs.FinMap.{values}
use Rattle.ts_row.specs.Row.{Heading}
use Rattle.ts_offset.specs.Grid.{GridPlan}
use Rattle.ts_offset.specs.declared.shape.Shape.TheVariants.{Regular}
use Rattle.ts_model.specs.declared.kind.Kind.TheVariants as kinds
use Rattle.ts_model.specs.Catalogue.{Series, Catalogue}
use Rattle.ts_model.specs.Definitions.{Definitions, SeriesDef, at_slot, slots, slots_by_name}
use Rattle.ts_layout.specs.Meaning.{Layout, catalogue_of}
use Rattle.ts_rolling.specs.Sets.{control_key, read_control, read_window, control_of}
use Rattle.ts_answer.specs.Reply.{Tried, ◌>>=◌}
use Rattle.ts_answer.specs.Elements.{a_control, control_grid}
use Rattle.ts_shelf.specs.Shelf.{IsShelfIn}

-- a series of this key stands in a slot
abbrev pub IsKeyIn : Definitions → ℕ → List ℕ → Type 0
IsKeyIn d slot key = option_map (λ s. s.key) (at_slot slot d.series) ≡ Some key

-- how many windows a set keeps by the series in a slot, where that is a control of it
abbrev pub control_if : List ℕ → Option SeriesDef → Option ℕ
control_if set found = option_and_then (λ s. read_control s.key set) found

abbrev pub control_at : Definitions → List ℕ → ℕ → Option ℕ
control_at d set slot = control_if set (at_slot slot d.series)

-- the number of the window in a slot, where that is one of the set in the container in another slot
abbrev pub window_if : List ℕ → ℕ → Option SeriesDef → Option ℕ
window_if set container None = None
window_if set container (Some s) = if s.container == container && is_none s.regular then read_window s.key set else None

abbrev pub window_at : Definitions → List ℕ → ℕ → ℕ → Option ℕ
window_at d set container slot = window_if set container (at_slot slot d.series)

-- the slots of series in the order of their keys
abbrev pub in_order : Definitions → List ℕ
in_order d = values (slots_by_name (slots kinds.Series d))

-- how many windows the controls of a set keep, and the numbers of its windows in a container
abbrev pub kept_in : Definitions → List ℕ → List ℕ
kept_in d set = filter_map (control_at d set) (in_order d)

abbrev pub live_in : Definitions → List ℕ → ℕ → List ℕ
live_in d set container = filter_map (window_at d set container) (in_order d)

-- in the catalogue of a layout this is the control of a set, and its grid; it stands in a slot, with these columns
pub record IsControlIn (set : List ℕ) (kept : ℕ) (grid : GridPlan) (slot : ℕ) (h : Heading) (l : Layout) : Type 0 where
  pub series : Series
  pub is : control_of set (catalogue_of l) ≡ Some (kept, series)
  pub shelf : IsShelfIn l (control_key set kept) (Regular grid) slot h series

-- a control with its grid is tried
abbrev pub gridded : List ℕ → Catalogue → Tried GridPlan
gridded set cat = do
  control ← a_control set cat
  control_grid control.1 cat
