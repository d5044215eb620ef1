-- Lemmas on a journal's file.
pub mod Texts
pub mod Ends
pub mod Once
pub mod Findings
pub mod Told
