pub mod FileLaws
pub mod WriteLaws
