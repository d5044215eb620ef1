pub mod PageBits
pub mod LeasedBits
pub mod Taking
pub mod Filling
