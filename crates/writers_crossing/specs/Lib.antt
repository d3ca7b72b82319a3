pub mod Promises
pub mod Statements
