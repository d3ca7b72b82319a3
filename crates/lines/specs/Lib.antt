pub mod Lines
pub mod Refusal
pub mod Promises
pub mod Inner
