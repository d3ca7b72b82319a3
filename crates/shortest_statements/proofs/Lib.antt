pub mod FormBack
pub mod Statements
pub mod OperandBack
pub mod StepBack
pub mod RecordBack
pub mod Rewriting
