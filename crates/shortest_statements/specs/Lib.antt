pub mod Statements
pub mod Rewriting
