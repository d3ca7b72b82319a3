pub mod SetsLaws
pub mod PutLaws
