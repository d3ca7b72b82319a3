pub mod FillLaws
pub mod NumberLaws
pub mod MapLaws
