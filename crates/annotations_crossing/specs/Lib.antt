pub mod Step
pub mod Promises
pub mod Statements
