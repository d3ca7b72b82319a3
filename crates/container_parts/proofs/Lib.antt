pub mod PartLaws
pub mod StreamLaws
