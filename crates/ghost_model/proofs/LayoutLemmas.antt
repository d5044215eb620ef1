-- Lemmas on the layout of the flash.
pub mod Columns
pub mod Numbers
pub mod Following
pub mod Places
pub mod Order
pub mod Limited
pub mod Small
pub mod Levels
