pub mod Statements
pub mod Exactly
pub mod Cases
