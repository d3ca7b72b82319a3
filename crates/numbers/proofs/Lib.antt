pub mod FormLaws
pub mod MoveLaws
pub mod PrefixLaws
pub mod ShiftLaws
