pub mod PlaceLaws
pub mod LayoutLaws
pub mod ContainerLaws
pub mod LaidLaws
pub mod PlanLaws
pub mod PlannedLaws
