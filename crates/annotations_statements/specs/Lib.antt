pub mod Statements
pub mod Cases
