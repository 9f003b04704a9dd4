pub mod AggregateLemmas
pub mod ElementLemmas
pub mod EntryLemmas
