pub mod Records
pub mod Ranges
pub mod Operands
pub mod Inner
