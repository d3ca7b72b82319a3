pub mod Parts
pub mod Statements
pub mod Isolation
pub mod SameLength
pub mod Prefix
pub mod Covers
pub mod Cases
