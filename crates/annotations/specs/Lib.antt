pub mod Signed
pub mod Annotation
pub mod Step
pub mod Promises
pub mod Inner
