-- The room of pages, by the columns of a container.
use Rattle.std.proofs.Common.{◌≡◌, ℕ, ◌<◌, Option, Some, None, refl, sym}
use Rattle.std.specs.Option.{option_and_then}
use Rattle.ts_row.specs.Row.{Heading}
use Rattle.ts_cells.specs.IrregularPage.{page_room}
use Rattle.ts_model.specs.Definitions.{Definitions, ContainerDef, at_slot}
use Rattle.ts_layout.specs.Meaning.{KeepLimits, heading_of_container, heading_in}
use Rattle.ts_layout.proofs.CallerLemmas.{room_some}

room_from : (d : Definitions) → KeepLimits d → (slot : ℕ) (h : Heading) → slot < 64 → (o : Option ContainerDef) → at_slot slot d.containers ≡ o → Some h ≡ option_and_then (heading_of_container d) o → 0 < page_room h.columns
room_from d limits slot h within None there is = absurd (let never : ⊥ = cc in never)
room_from d limits slot h within (Some c) there is = room_some d limits slot c h within there (sym is)

-- a page has room for one element at least
pub room_in : (d : Definitions) → KeepLimits d → (slot : ℕ) (h : Heading) → slot < 64 → Some h ≡ heading_in d slot → 0 < page_room h.columns
room_in d limits slot h within is = room_from d limits slot h within (at_slot slot d.containers) refl is
