pub mod Scans
pub mod Selected
pub mod Followed
pub mod examples
pub mod Asking
