-- What the drop of a series adds to a record.
use Rattle.std.specs.Prelude.{◌≡◌, ℕ, ◌+◌, ◌*◌, ◌<◌, ◌≤◌, IsTrue, length}
use Rattle.ts_page.specs.Pages.{Contents, first_element_page, image_entry_size, free_entry_size}
use Rattle.ts_model.specs.declared.kind.Kind.TheVariants as kinds
use Rattle.ts_model.specs.Definitions.{series_slots}
use Rattle.ts_layout.specs.Slot.{page_of_slot}
use Rattle.ts_answer.specs.declared.stop.Stop.{Stop}
use Rattle.ts_answer.specs.declared.stop.Stop.TheVariants.{Refused, Failed, Memory}

-- The page of its slot gets an image, where it has none in the open batch; for each page that it had the number of one
-- more is free. No page of definitions loses its image.
pub record IsDropped (slot : ℕ) (v w : Contents) : Type 0 where
  pub within : slot < series_slots
  pub grows : w.change_bytes + free_entry_size * length v.free
      ≤ v.change_bytes + free_entry_size * length w.free + image_entry_size
  pub again : IsTrue (v.imaged (page_of_slot kinds.Series slot))
      → w.change_bytes + free_entry_size * length v.free ≤ v.change_bytes + free_entry_size * length w.free
  pub images : (number : ℕ) → number < first_element_page → IsTrue (v.imaged number) → IsTrue (w.imaged number)
  pub imaged : IsTrue (w.imaged (page_of_slot kinds.Series slot))

-- a drop that is refused leaves the pages
abbrev pub LeavesRefused : Stop → Contents → Contents → Type 0
LeavesRefused (Refused refusal) v w = w ≡ v
LeavesRefused Failed v w = Unit {0}
LeavesRefused (Memory error) v w = Unit {0}
