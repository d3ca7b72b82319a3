pub mod ProgramLaws
pub mod PassLaws
pub mod RanLaws
