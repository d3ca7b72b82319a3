pub mod Statements
pub mod FileF
pub mod Cases
