pub mod ShortLaws
pub mod ReadLaws
