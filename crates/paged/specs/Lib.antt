pub mod Refusal
pub mod PageSize
pub mod Pages
pub mod Checks
pub mod Inner
