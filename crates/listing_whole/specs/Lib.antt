pub mod Whole
pub mod Inner
