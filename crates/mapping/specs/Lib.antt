pub mod Mapping
pub mod Inner
