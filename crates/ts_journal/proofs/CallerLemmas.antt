-- What the crates above cite of the proofs here.
pub use Rattle.ts_journal.proofs.BatchLemmas.{none_below, put_all-push, put_rising}
pub use Rattle.ts_journal.proofs.CommitLemmas.{records_length-push, region_length, stays_unread, volume_long}
pub use Rattle.ts_journal.proofs.ImageLemmas.{closed_records, gate_part, open_records, records_closed, region_part, same_gate}
pub use Rattle.ts_journal.proofs.OverLemmas.{over_put, put_pages-over, over_pages, put_all_none}
pub use Rattle.ts_journal.proofs.OverlayLemmas.{change_of-put, overlay_from-push}
pub use Rattle.ts_journal.proofs.ParseLemmas.{entries_end, entries_none, entries_step, entry_front, no_region}
pub use Rattle.ts_journal.proofs.RecordsLemmas.{behind_none, by_number, deeper}
pub use Rattle.ts_journal.proofs.StandLemmas.{journal_is_none, journal_malformed}
pub use Rattle.ts_journal.proofs.WriteLemmas.{keeps_refl, keeps_then, lasts_failed}
