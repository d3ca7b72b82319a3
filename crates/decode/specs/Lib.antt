pub mod Decode
pub mod Refusal
pub mod Promises
pub mod Inner
