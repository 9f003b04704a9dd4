-- The order of slots, page after page.
use Rattle.std.specs.Prelude.{ℕ, ◌+◌, ◌-◌, ◌*◌, nat_le, min, if◌then◌else◌}
use Rattle.ts_model.specs.declared.kind.Kind.{Kind}
use Rattle.ts_model.specs.declared.kind.Kind.TheVariants as kinds
use Rattle.ts_model.specs.Definitions.{row_type_slots, pattern_slots, calendar_slots, container_slots, series_slots}
use Rattle.ts_layout.specs.Slot.{first_definition_page, first_series_page, container_page, series_in_page}

-- how many slots have a page each: those of row types, of patterns and of calendars, one after the other
abbrev pub slots_with_own_page : ℕ
slots_with_own_page = row_type_slots + pattern_slots + calendar_slots

-- the slots in the order of their pages
abbrev pub rank : Kind → ℕ → ℕ
rank kinds.RowType slot = slot
rank kinds.Pattern slot = row_type_slots + slot
rank kinds.Calendar slot = row_type_slots + pattern_slots + slot
rank kinds.Container slot = slots_with_own_page + slot
rank kinds.Series slot = slots_with_own_page + container_slots + slot

-- how many slots stand before a definition page
abbrev pub rank_of_page : ℕ → ℕ
rank_of_page number =
    if nat_le number container_page then number - first_definition_page
    else slots_with_own_page + container_slots + min (series_in_page * (number - first_series_page)) series_slots

-- how many slots there are in all
abbrev pub all_slots : ℕ
all_slots = slots_with_own_page + container_slots + series_slots
