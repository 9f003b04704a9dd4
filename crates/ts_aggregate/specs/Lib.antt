pub mod Fold
pub mod Takes
pub mod Column
pub mod Totals
pub mod KnownColumns
pub mod Groups
pub mod GroupLaws
pub mod Stacks
