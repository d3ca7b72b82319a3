pub mod Place
pub mod Promises
pub mod Statements
