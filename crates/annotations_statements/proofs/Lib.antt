pub mod Cases
pub mod Told
pub mod Statements
