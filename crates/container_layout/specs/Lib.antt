pub mod Place
pub mod Layout
pub mod Container
pub mod Refusal
pub mod Planning
pub mod Laid
pub mod Inner
