pub mod Writing
pub mod Promises
pub mod Inner
