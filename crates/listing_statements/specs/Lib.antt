pub mod Statements
pub mod Lines
pub mod Cases
