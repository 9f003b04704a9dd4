-- What holds of free pages, and of the places of other series.
use Rattle.std.specs.Prelude.{◌≡◌, ◌≢◌, ◌+◌, ℕ, List, length}
use Rattle.ts_page.specs.Pages.{first_element_page}
use Rattle.ts_space.specs.Directory.{Directory, places_of, used_of, ChangesOnly}
use Rattle.ts_model.specs.Definitions.{series_slots}
use Rattle.ts_layout.specs.Meaning.{Layout, IsSound}
use Rattle.ts_layout.specs.Surveyed.{free_pages, ListsPlaces}
use Rattle.ts_layout.specs.Chains.{AreFilled}
use Rattle.ts_layout.specs.Held.{IsHeldOf}

-- each element page is free, or the place of one series
pub record PagesAreFreeOrPlaced : Type 0 where
  pub counted : (l : Layout) (space : Directory) → IsSound l → AreFilled l → ListsPlaces space l → length space.lists
      ≡ series_slots
      → length (free_pages l) + used_of space ≡ length l.element_pages
  pub held : (l : Layout) (space : Directory) (count : ℕ) → IsSound l → AreFilled l → ListsPlaces space l
      → count ≡ first_element_page + length l.element_pages → IsHeldOf l.definitions space count (free_pages l) l
  pub left : (l : Layout) (space : Directory) (count : ℕ) (free : List ℕ) → IsHeldOf l.definitions space count free l
      → length space.lists ≡ series_slots → length free + used_of space ≡ length l.element_pages

-- a directory of which one list changes has the other places as before
pub record OtherPlacesStay : Type 0 where
  pub places : (slot s : ℕ) (old new : Directory) → ChangesOnly slot old new → s ≢ slot
      → places_of s new ≡ places_of s old
  pub slots : (slot : ℕ) (old new : Directory) → ChangesOnly slot old new → length new.lists ≡ length old.lists
