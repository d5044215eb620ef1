pub mod Fields
pub mod Handing
pub mod Faults
pub mod Told
