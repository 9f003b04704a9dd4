-- What containers are charged, when definitions or places change.
use Rattle.std.specs.Prelude.{◌≡◌, ℕ, ◌<◌, ⊤, Option, Some, None, List, [], slice_index_or}
use Rattle.ts_row.specs.Row.{Heading}
use Rattle.ts_space.specs.declared.place.Place.{Place}
use Rattle.ts_space.specs.declared.moved.Moved.{Moved}
use Rattle.ts_space.specs.Moved.{moved_to}
use Rattle.ts_cells.specs.IrregularPage.{page_room}
use Rattle.ts_space.specs.Directory.{Directory, places_of}
use Rattle.ts_model.specs.declared.kind.Kind.{Kind}
use Rattle.ts_model.specs.declared.kind.Kind.TheVariants as kinds
use Rattle.ts_model.specs.Definitions.{Definitions, SeriesDef, at_slot, container_slots, series_slots, IsDefinitions}
use Rattle.ts_layout.specs.Meaning.{KeepLimits, heading_in}
use Rattle.ts_layout.specs.Charges.{IsCountable}
use Rattle.ts_effects.specs.declared.charge.Rate.{Rate}

-- the places of a series once they change; none where all go
abbrev pub places_after : Option Moved → List Place → List Place
places_after (Some moved) places = moved_to moved places
places_after None places = []

-- no charge depends on the definition in a slot: that of a pattern or a calendar, or of a series without places
abbrev pub IsNeverCharged : Kind → ℕ → Directory → Type 0
IsNeverCharged kinds.RowType slot space = ⊥
IsNeverCharged kinds.Pattern slot space = ⊤
IsNeverCharged kinds.Calendar slot space = ⊤
IsNeverCharged kinds.Container slot space = ⊥
IsNeverCharged kinds.Series slot space = places_of slot space ≡ []

-- what containers are charged can be counted: definitions keep the rules, and no series has too many elements or places
pub record CanCount (d : Definitions) (lists : List (List Place)) : Type 0 where
  pub limits : KeepLimits d
  pub rules : IsDefinitions d
  pub countable : (slot : ℕ) → slot < series_slots → IsCountable (slice_index_or lists slot [])

-- how the series in a slot is charged: to its container, by where its elements lie and how many a page has room for
pub record IsRateOf (slot : ℕ) (d : Definitions) (rate : Rate) : Type 0 where
  pub series : SeriesDef
  pub heading : Heading
  pub there : at_slot slot d.series ≡ Some series
  pub container : series.container ≡ rate.container
  pub regular : series.regular ≡ rate.regular
  pub below : rate.container < container_slots
  pub has : heading_in d rate.container ≡ Some heading
  pub room : page_room heading.columns ≡ rate.room
