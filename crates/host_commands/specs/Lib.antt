pub mod HostApp
pub mod Words
pub mod Statuses
pub mod Hosting
