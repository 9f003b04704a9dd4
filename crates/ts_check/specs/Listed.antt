-- The lines of containers by their slots.
use Rattle.std.specs.Prelude.{ℕ, ◌==◌, Bool, false, Option, Some, None, List, [], count_by, slice_index}
use Rattle.std.specs.List.{flat_map}
use Rattle.std.specs.FinMap.{values}
use Rattle.ts_model.specs.declared.kind.Kind.TheVariants as kinds
use Rattle.ts_model.specs.Definitions.{Definitions, ContainerDef, SeriesDef, at_slot, slots, slots_by_name}
use Rattle.ts_check.specs.Report.{container_line}

-- a series stands in the container of a slot
abbrev pub is_of : ℕ → Option SeriesDef → Bool
is_of container None = false
is_of container (Some s) = s.container == container

-- how many series stand there, of those in some slots
abbrev pub count_among : Definitions → ℕ → List ℕ → ℕ
count_among d container among = count_by (λ slot. is_of container (at_slot slot d.series)) among

-- how many of all
abbrev pub count_of_series : Definitions → ℕ → ℕ
count_of_series d container = count_among d container (values (slots_by_name (slots kinds.Series d)))

-- the line of a container in a slot, where these are the charges of all slots; nothing for an empty slot
abbrev pub line_if : Definitions → List ℕ → ℕ → Option ContainerDef → List ℕ
line_if d charges slot None = []
line_if d charges slot (Some c) = container_line c.name (slice_index charges slot) c.quota (count_of_series d slot)

abbrev pub line_at : Definitions → List ℕ → ℕ → List ℕ
line_at d charges slot = line_if d charges slot (at_slot slot d.containers)

-- those of all containers, in the order of their names
abbrev pub lines_in_order : Definitions → List ℕ → List ℕ
lines_in_order d charges = flat_map (line_at d charges) (values (slots_by_name (slots kinds.Container d)))
