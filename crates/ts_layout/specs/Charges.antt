-- What containers are charged, by the directory.
use Rattle.std.specs.Prelude.{◌≡◌, ℕ, ℤ, length, suc, ◌+◌, ◌^◌, ◌<◌, ◌≤◌, ◌==◌, if◌then◌else◌, Option, Some, None}
use Rattle.std.specs.Prelude.{option_map, unwrap_or, List, [], ◌∷◌}
use Rattle.ts_row.specs.Row.{Heading}
use Rattle.ts_space.specs.Directory.{Directory, places_of}
use Rattle.ts_space.specs.declared.place.Place.{Place}
use Rattle.ts_space.specs.Place.{count_of}
use Rattle.ts_space.specs.Charge.{irregular_places_charge}
use Rattle.ts_cells.specs.IrregularPage.{page_room}
use Rattle.ts_model.specs.Definitions.{Definitions, ContainerDef, SeriesDef, at_slot, container_slots, series_slots}
use Rattle.ts_layout.specs.Meaning.{heading_of_container, heading_in}

-- places so few, with so few elements, that both can be counted
abbrev pub IsCountable : List Place → Type 0
IsCountable places = count_of places + length places < 2 ^ 32

-- those of each series are
abbrev pub AreCountable : Directory → Type 0
AreCountable space = (slot : ℕ) → slot < series_slots → IsCountable (places_of slot space)

-- what a series with these places is charged: an irregular one by its elements, where a page has room for so many, a
-- regular one for each place
abbrev pub places_charge : ℕ → Option (ℕ × ℤ) → List Place → ℕ
places_charge room None places = irregular_places_charge room places
places_charge room (Some regular) places = length places

-- what stands in a slot is charged to a container
abbrev pub charge_listed : Directory → ℕ → ℕ → ℕ → Option SeriesDef → ℕ
charge_listed space container room slot None = 0
charge_listed space container room slot (Some s) = if s.container == container
    then places_charge room s.regular (places_of slot space) else 0

-- the sum over slots, from slot number `first` on
abbrev pub charges_listed : Directory → ℕ → ℕ → ℕ → List (Option SeriesDef) → ℕ
charges_listed space container room first [] = 0
charges_listed space container room first (s ∷ rest) =
    charge_listed space container room first s + charges_listed space container room (suc first) rest

-- what all series of a container are charged
abbrev pub container_charge : Definitions → Directory → ℕ → ℕ → ℕ
container_charge d space container room = charges_listed space container room 0 d.series

-- the container in a slot, if there is one, is charged its quota at most
abbrev pub KeepsQuotaAt : Definitions → Directory → ℕ → Type 0
KeepsQuotaAt d space slot =
    (c : ContainerDef) (h : Heading) → at_slot slot d.containers ≡ Some c → heading_of_container d c ≡ Some h
    → container_charge d space slot (page_room h.columns) ≤ c.quota

-- each container is
abbrev pub KeepQuotas : Definitions → Directory → Type 0
KeepQuotas d space = (slot : ℕ) → slot < container_slots → KeepsQuotaAt d space slot

-- what the container in a slot is charged, by the directory; nothing where there is none
abbrev pub charge_in : Definitions → Directory → ℕ → ℕ
charge_in d space slot =
    unwrap_or (option_map (λ h. container_charge d space slot (page_room h.columns)) (heading_in d slot)) 0
