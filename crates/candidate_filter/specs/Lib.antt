pub mod Fills
pub mod Sifts
pub mod Outside
pub mod Given
pub mod Laws
pub mod Steps
