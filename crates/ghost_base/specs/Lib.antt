pub mod Texts
pub mod Views
pub mod Runs
pub mod CellLaws
