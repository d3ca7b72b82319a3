pub mod RangeLaws
pub mod OperandLaws
