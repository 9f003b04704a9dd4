pub mod AggregateLaws
pub mod Edited
pub mod Laws
pub mod Objects
pub mod ReadingLaws
pub mod SeriesLaws
pub mod TransactionLaws
