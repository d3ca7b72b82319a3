pub mod SizeLaws
pub mod LiesLaws
pub mod FitLaws
pub mod StepLaws
