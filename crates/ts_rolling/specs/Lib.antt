pub mod KeyLaws
pub mod Sets
pub mod SetLaws
pub mod Kept
