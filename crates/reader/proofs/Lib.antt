pub mod Loan
pub mod EndLaws
pub mod Statements
pub mod ItemLaws
