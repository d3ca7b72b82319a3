pub mod Flags
pub mod Promises
pub mod Statements
