-- The laws of layouts that change, at hand for what follows.
use Rattle.std.specs.FinMap.{entries}
use Rattle.ts_layout.specs.ChainLaws.{PagesAreSheets, ElementsAreMaps, SeriesAreRewritten, SeriesAreDropped}
use Rattle.ts_layout.specs.MemoryLaws.{SameListsAreKept, PlacesAreDropped}
use Rattle.ts_layout.proofs.CallerLemmas.{chain_is_sheets, pages_are_on, map_entries, map_found, map_put, map_taken, map_count, rewritten_bytes, rewritten_lists, rewritten_held, rewritten_catalogue, series_gone_bytes, series_gone_held, series_gone_catalogue, kept_alike, series_gone_kept}

pub as_sheets : PagesAreSheets
as_sheets = record { chain = chain_is_sheets; grid = pages_are_on }

pub as_maps : ElementsAreMaps
as_maps = record { entries = map_entries; found = map_found; put = map_put; taken = map_taken; count = map_count }

pub rewritten : SeriesAreRewritten
rewritten = record { bytes = rewritten_bytes; places = rewritten_lists; kept = rewritten_held; catalogue = rewritten_catalogue }

pub dropped : SeriesAreDropped
dropped = record { bytes = series_gone_bytes; kept = series_gone_held; catalogue = series_gone_catalogue }

pub kept_same : SameListsAreKept
kept_same = kept_alike

pub kept_without : PlacesAreDropped
kept_without = series_gone_kept
