-- Lemmas on identifiers as gaps.
pub mod Codes
pub mod Files
pub mod Lists
pub mod Pages
pub mod Reading
