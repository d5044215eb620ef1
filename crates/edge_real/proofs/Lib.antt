pub mod Counted
pub mod PlainLetters
