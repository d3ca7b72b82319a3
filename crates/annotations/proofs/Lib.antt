pub mod AnnotationLaws
pub mod StepLaws
pub mod ReadLaws
pub mod MoveLaws
pub mod PrefixLaws
pub mod ShiftLaws
