-- The laws of layouts, at hand for what follows.
use Rattle.std.proofs.Common.{◌≡◌, List}
use Rattle.std.specs.FinMap.{entries}
use Rattle.ts_row.specs.Row.{Element}
use Rattle.ts_cells.specs.IrregularPage.{AreRising}
use Rattle.ts_layout.specs.Chains.{by_stamp}
use Rattle.ts_layout.specs.ChainLaws.{SeriesAreOnPages}
use Rattle.ts_layout.specs.ChargeLaws.{QuotasLeaveRoom, ChargesFollowPlaces}
use Rattle.ts_layout.specs.MemoryLaws.{SoundDefinitionsHaveLayouts, PlacesStayApart}
use Rattle.ts_layout.proofs.CallerLemmas.{series_chain, series_on_grid, len_counted, rising_entries, charge_own, charge_others, offsets_charged, charge_pages, charge_elements, listed_quotas, quotas_room, quotas_countable, charge_named, charge_with, columns_named, quota_named, places_kept, bare_sound, bare_filled, bare_size, places_edited, grid_places_edited, places_moved}

pub on_pages : SeriesAreOnPages
on_pages = record { chain = series_chain; grid = series_on_grid; rising = λ l space slot lists within. (lists slot within).rising; count = len_counted }

pub room_left : QuotasLeaveRoom
room_left = record { quotas = listed_quotas; room = quotas_room; countable = quotas_countable }

pub charges : ChargesFollowPlaces
charges = record {
  pages = charge_pages;
  own = charge_own;
  others = charge_others;
  name = charge_named;
  with = charge_with;
  elements = charge_elements;
  offsets = offsets_charged;
  columns = columns_named;
  quota = quota_named;
}

pub bare_layouts : SoundDefinitionsHaveLayouts
bare_layouts = record { rules = bare_sound; filled = bare_filled; size = bare_size }

pub apart : PlacesStayApart
apart = record { irregular = places_edited; regular = grid_places_edited; moved = places_moved; kept = places_kept }

-- elements whose stamps rise are the entries of their map
pub entries_rising : (es : List Element) → AreRising es → entries (by_stamp es) ≡ es
entries_rising es rising = rising_entries es rising
