pub mod Numerals
pub mod Written
pub mod Reading
pub mod Rules
pub mod Clinics
pub mod MeantTexts
