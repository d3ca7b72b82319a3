pub mod Extent
pub mod Inner
