pub mod Needed
pub mod Inner
pub mod Promises
