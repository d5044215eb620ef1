pub mod Causes
pub mod Fields
pub mod FileLineLemmas
pub mod OpeningLaws
pub mod Placing
pub mod ReadFiles
pub mod Showing
pub mod Telling
