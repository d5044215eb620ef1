-- Lemmas on the hidden part as the flash holds it.
pub mod Values
pub mod Parts
pub mod Keys
pub mod Lists
pub mod Rooms
pub mod Held
pub mod Written
