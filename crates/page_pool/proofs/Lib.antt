pub mod Marks
pub mod Leases
