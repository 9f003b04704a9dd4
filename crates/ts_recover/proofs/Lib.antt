pub mod ReadLemmas
pub mod EntryLemmas
pub mod ParsedLemmas
pub mod JournalLemmas
pub mod OpenedLemmas
pub mod CallerLemmas
