pub mod Putting
pub mod AreasLaid
pub mod Sifted
pub mod Counted
