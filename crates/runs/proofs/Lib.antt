pub mod RunLaws
pub mod CheckLaws
pub mod StretchLaws
pub mod LyingLaws
