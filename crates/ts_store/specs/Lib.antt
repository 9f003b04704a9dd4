pub mod FreeList
pub mod OpenBatch
pub mod Undisturbed
