pub mod InMemory
pub mod Near
pub mod Order
pub mod Windows
