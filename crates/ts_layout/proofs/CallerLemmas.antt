-- What the crates above cite, by subject.
-- slots, their bytes and their pages
pub use Rattle.ts_layout.proofs.PlaceLemmas.{Stands, at_slot-map, def_at-cleared, def_at-other, def_at-with_slot, fits_page, length-with_slot, page_high, page_low, rank_next, slot_end, stands}
pub use Rattle.ts_layout.proofs.SlotLemmas.{apart_by_rank, own, sizes, slot_empty, slot_filled, this_or_other}
pub use Rattle.ts_layout.proofs.SlotBytesLemmas.{calendar_slot_one, slot_one, slot_written}
pub use Rattle.ts_layout.proofs.CalendarBytesLemmas.{as_written, calendar_one, name_written, references_written}
pub use Rattle.ts_layout.proofs.FieldLemmas.{calendar_name, calendar_patt_start, calendar_start, container_name, container_quota, container_row_type, header_format, length-name, length-padded, name_text, pattern_name, row_type_count, row_type_name, row_type_stamp, series_calendar, series_container, series_first, series_key, series_length, series_origin, series_regular}
pub use Rattle.ts_layout.proofs.ColumnLemmas.{AreNamed, behind_stamp, first_column, named_first, named_others}
pub use Rattle.ts_layout.proofs.PlanBytesLemmas.{PlanFields, behind_pattern, behind_starts, each_run, each_short, number_2, part_named, part_own, part_plan, part_slot, plan_fields, run_count, run_on, runs_bytes, unit_one}
pub use Rattle.ts_layout.proofs.LimitLemmas.{calendar_limit, calendars_only, container_limit, containers_only, heading_past, length-key, patterns_only, regular_limit, row_types_only, series_limit, series_only, shape_past}
pub use Rattle.ts_layout.proofs.UniqueLemmas.{AreInPages, all_there, unique}
pub use Rattle.ts_layout.proofs.WrittenLemmas.{definitions_stay, elsewhere}
-- definitions by name, made and dropped
pub use Rattle.ts_layout.proofs.LookupLemmas.{name_found, no_name_found, kind_full, kind_vacant, pattern_found, calendar_found, pattern_of_calendar, calendar_stands, container_found, container_of_series, grid_found, shape_found, quotas_same, row_type_of_container, series_at, series_found, used_by_name, unused_by_name, vacant_found}
pub use Rattle.ts_layout.proofs.ValueLemmas.{text_named, text_own, container_named, irregular_named, regular_named}
pub use Rattle.ts_layout.proofs.ChangedLemmas.{made_sound, made_headings, made_catalogue, dropped_sound, dropped_headings, dropped_catalogue}
-- element pages, and the elements and places of a series
pub use Rattle.ts_layout.proofs.HeadLemmas.{head_free, head_is}
pub use Rattle.ts_layout.proofs.OnePageLemmas.{slot_in, slot_told, free_or_sheet, one_sheet, one_grid_page}
pub use Rattle.ts_layout.proofs.SheetLemmas.{fill_of, length-stamped}
pub use Rattle.ts_layout.proofs.ElementPageLemmas.{at_end, before, free_from-append, within_list}
pub use Rattle.ts_layout.proofs.PageLemmas.{filled_pages, free_cells}
pub use Rattle.ts_layout.proofs.SeriesChainLemmas.{series_chain, series_on_grid, series_sheets}
pub use Rattle.ts_layout.proofs.SeriesSheetLemmas.{chain_is_sheets, of_pages, pages_are_on, sheets_chained, sheets_count, sheets_fill}
pub use Rattle.ts_layout.proofs.ChainCountLemmas.{len_counted as series_count}
pub use Rattle.ts_layout.proofs.StampLemmas.{map_count, map_entries, map_found, map_put, map_taken, rising_entries}
pub use Rattle.ts_layout.proofs.RewrittenLemmas.{rewritten_bytes, rewritten_catalogue, rewritten_held, rewritten_lists}
pub use Rattle.ts_layout.proofs.SeriesDroppedLemmas.{series_gone_bytes, series_gone_catalogue, series_gone_held}
-- free pages, and directories of which one list changes
pub use Rattle.ts_layout.proofs.FreeLemmas.{free_counted}
pub use Rattle.ts_layout.proofs.FreeListLemmas.{free_at, free_different}
pub use Rattle.ts_layout.proofs.HeldLemmas.{free_left, held_layout, others_stay, slots_stay}
-- lists in another order, and how many elements and places a series has
pub use Rattle.ts_layout.proofs.MemberLemmas.{Lifted, lifted, rising_once}
pub use Rattle.ts_layout.proofs.PermutedLemmas.{pairs_permuted, pairs_front, pairs_back, pairs_join, pairs_across, all_front, all_back, parts_exchanged, flat_map_permuted, all_in_permuted}
pub use Rattle.ts_layout.proofs.ChainCountLemmas.{IsPlaceAt, counted, its_places, len_counted, places_charged}
pub use Rattle.ts_layout.proofs.PairLemmas.{elements_permuted, sheets_all, sheets_each}
-- charges and quotas
pub use Rattle.ts_layout.proofs.ChargeLemmas.{charges_more, container_at, heading_there, quota_kept, room_some}
pub use Rattle.ts_layout.proofs.ShapeLemmas.{AreCounted, charge_same, count_places, many_places, lists_counted, one_charged, quotas_kept, quotas_listed}
pub use Rattle.ts_layout.proofs.ListedLemmas.{charge_others, charge_own}
pub use Rattle.ts_layout.proofs.NamedChargeLemmas.{charge_named, charge_with, columns_named, columns_there, has_shape, quota_named, shape_named}
pub use Rattle.ts_layout.proofs.GridLemmas.{offsets_charged, rising_stamped, starts_counted}
pub use Rattle.ts_layout.proofs.LaidLemmas.{calendar_laid, laid_at, laid_of}
pub use Rattle.ts_layout.proofs.QuotaLemmas.{charge_elements, charge_pages, listed_quotas, nothing_charged, quotas_countable, quotas_put, quotas_room}
-- what is kept in memory
pub use Rattle.ts_layout.proofs.PlacedLemmas.{places_edited, grid_places_edited, places_moved}
pub use Rattle.ts_layout.proofs.LayoutKeptLemmas.{bare_filled, bare_size, bare_sound, kept_in, sheet_counted}
pub use Rattle.ts_layout.proofs.DefinedKeptLemmas.{dropped_kept, made_kept}
pub use Rattle.ts_layout.proofs.QuotasKeptLemmas.{edited_kept, kept_alike, places_kept, series_gone_kept}
-- formats
pub use Rattle.ts_layout.proofs.FormatLemmas.{one_held, not_old, of_format_short, of_format_new, elements_of_new, format_edited, layout_renewed, sound_renewed, filled_renewed, kept_renewed}
-- layouts and their catalogues
pub use Rattle.ts_layout.proofs.LayoutLemmas.{chained, layout_stays, layout_written, one_of, same_catalogue, same_page, same_pages}
