-- One series with what it stands on, and nothing else: how a series is moved to another volume.
use Rattle.std.specs.Prelude.{◌≡◌, ℕ, Bool, Some, List, [], ◌∷◌, filter, option_map, option_to_list, bytes_eq}
use Rattle.std.specs.List.{list_any, flat_map}
use Rattle.std.specs.FinMap.{entries, from_entries, get}
use Rattle.ts_calendar.specs.declared.text.PatternPart.{PatternPart}
use Rattle.ts_calendar.specs.declared.text.PatternPart.TheVariants.{Named as ByName, Own}
use Rattle.ts_model.specs.Catalogue.{Named, SeriesKind, Irregular, Regular, Series, Catalogue}
use Rattle.ts_catalogue_laws.specs.Catalogue.{IsCatalogue}

-- a name is one of these
abbrev pub is_among : List (List ℕ) → List ℕ → Bool
is_among names name = list_any (λ other. bytes_eq other name) names

-- what has one of these names
abbrev pub only : {X : Type 0} → List (List ℕ) → Named X → Named X
only names named = from_entries (filter (λ e. is_among names e.0) (entries named))

-- the name of the row type of a series
abbrev pub row_type_named : Catalogue → Series → List (List ℕ)
row_type_named cat s = option_to_list (option_map (λ c. c.row_type) (get cat.containers s.container))

-- the name of its calendar, if it is regular
abbrev pub calendar_named_by : SeriesKind → List (List ℕ)
calendar_named_by Irregular = []
calendar_named_by (Regular calendar origin) = calendar ∷ []

-- the name of a pattern, if it is given by it
abbrev pub pattern_named_by : PatternPart → List (List ℕ)
pattern_named_by (ByName name) = name ∷ []
pattern_named_by (Own pattern) = []

-- the name of the pattern by which a calendar was made, if it was
abbrev pub pattern_of_calendar : Catalogue → List ℕ → List (List ℕ)
pattern_of_calendar cat calendar =
    flat_map (λ text. pattern_named_by text.part) (option_to_list (get cat.calendars calendar))

-- a series with its container, the row type of this, its calendar and the pattern of this
abbrev pub alone : List ℕ → Series → Catalogue → Catalogue
alone key s cat = record cat {
  row_types = only (row_type_named cat s) cat.row_types;
  patterns = only (flat_map (pattern_of_calendar cat) (calendar_named_by s.kind)) cat.patterns;
  calendars = only (calendar_named_by s.kind) cat.calendars;
  containers = only (s.container ∷ []) cat.containers;
  series = only (key ∷ []) cat.series;
}

-- it is a catalogue, and has the series as it was
pub record StandsAlone (key : List ℕ) (s : Series) (cat : Catalogue) : Type 0 where
  pub is : IsCatalogue (alone key s cat)
  pub has : get (alone key s cat).series key ≡ Some s

-- so it is of each series of a catalogue
abbrev pub SeriesStandAlone : Type 0
SeriesStandAlone = (key : List ℕ) (s : Series) (cat : Catalogue) → IsCatalogue cat → get cat.series key ≡ Some s
    → StandsAlone key s cat
