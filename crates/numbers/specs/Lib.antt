pub mod Refusal
pub mod Number
pub mod Promises
pub mod Inner
