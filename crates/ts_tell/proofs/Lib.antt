pub mod CalendarLemmas
pub mod InOrderLemmas
pub mod SaidLemmas
