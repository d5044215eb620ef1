pub mod Ways
pub mod Views
pub mod Answers
pub mod Left
