-- What each container is charged, kept as a list of sums.
use Rattle.std.specs.Prelude.{◌≡◌, ℕ, ◌+◌, ◌-◌, ◌<◌, ◌≤◌, option_map, unwrap_or, List, slice_index, slice_set}
use Rattle.ts_page.specs.Pages.{most_element_pages}
use Rattle.ts_space.specs.Directory.{Directory}
use Rattle.ts_cells.specs.IrregularPage.{page_room}
use Rattle.ts_model.specs.Definitions.{Definitions, container_slots, at_slot}
use Rattle.ts_layout.specs.Meaning.{heading_in}
use Rattle.ts_layout.specs.Charges.{charge_listed, charge_in}

-- each sum is what the container in its slot is charged, by the directory
abbrev pub AreCharges : List ℕ → Definitions → Directory → Type 0
AreCharges sums d space = (slot : ℕ) → slot < container_slots → slice_index sums slot ≡ charge_in d space slot

-- no container is charged more pages than a volume has
abbrev pub AreFew : Definitions → Directory → Type 0
AreFew d space = (slot : ℕ) → slot < container_slots → charge_in d space slot ≤ most_element_pages

-- the sums are what containers are charged, and that is little
unfoldable pub IsCharged : List ℕ → Definitions → Directory → Type 0
IsCharged sums d space = AreCharges sums d space × AreFew d space

-- the sums with what one series of a container cost in place of what it cost before
abbrev pub with_charge : ℕ → ℕ → ℕ → List ℕ → List ℕ
with_charge slot old new sums = slice_set sums slot (slice_index sums slot + new - old)

-- what the series in a slot is charged to the container in another; nothing where one of them isn't there, or it is
-- another's
abbrev pub charged_to : Definitions → Directory → ℕ → ℕ → ℕ
charged_to d space container slot =
    unwrap_or (option_map (λ h. charge_listed space container (page_room h.columns) slot (at_slot slot d.series))
    (heading_in d container)) 0
