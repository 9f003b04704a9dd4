pub mod PartLemmas
pub mod ParseLemmas
pub mod CalendarLemmas
pub mod WrittenLemmas
pub mod WriteLemmas
