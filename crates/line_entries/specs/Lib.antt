pub mod Entries
pub mod Inner
