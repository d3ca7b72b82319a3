pub mod Change
pub mod Inner
