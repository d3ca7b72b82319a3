pub mod RunLaws
pub mod DecodeLaws
