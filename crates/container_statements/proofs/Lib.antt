pub mod Told
pub mod Cases
pub mod Statements
pub mod BothForms
