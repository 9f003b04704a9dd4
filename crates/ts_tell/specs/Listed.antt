-- The series that a list names.
use Rattle.std.specs.Prelude.{ℕ, ◌==◌, Bool, if◌then◌else◌, Option, Some, None, is_some, List, [], ◌∷◌}
use Rattle.std.specs.List.{flat_map}
use Rattle.std.specs.FinMap.{values}
use Rattle.ts_space.specs.Place.{count_of}
use Rattle.ts_space.specs.Directory.{Directory, places_of}
use Rattle.ts_model.specs.declared.kind.Kind.TheVariants as kinds
use Rattle.ts_model.specs.Definitions.{Definitions, SeriesDef, at_slot, slots, slots_by_name}

-- the series in a slot, with its key, whether it is regular and the number of its elements, if it stands in the
-- container in a slot
abbrev pub listed_if : Directory → ℕ → ℕ → Option SeriesDef → List (List ℕ × Bool × ℕ)
listed_if space container slot None = []
listed_if space container slot (Some s) = if s.container == container
    then (s.key, is_some s.regular, count_of (places_of slot space)) ∷ [] else []

abbrev pub listed_at : Definitions → Directory → ℕ → ℕ → List (List ℕ × Bool × ℕ)
listed_at d space container slot = listed_if space container slot (at_slot slot d.series)

-- all series of the container in a slot, in the order of their keys
abbrev pub listed_in : Definitions → Directory → ℕ → List (List ℕ × Bool × ℕ)
listed_in d space container = flat_map (listed_at d space container) (values (slots_by_name (slots kinds.Series d)))
