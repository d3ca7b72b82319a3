pub mod State
pub mod Sum
