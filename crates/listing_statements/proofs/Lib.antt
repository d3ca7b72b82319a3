pub mod Decimal
pub mod LongestLine
pub mod InParts
pub mod Lines
pub mod Absent
pub mod Statements
pub mod Cases
