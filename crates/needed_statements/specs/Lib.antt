pub mod Statements
pub mod Isolation
pub mod Prefix
pub mod Cases
