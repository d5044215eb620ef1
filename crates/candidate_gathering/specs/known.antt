pub mod Known
pub mod Reading
pub mod Found
pub mod May
pub mod Laws
pub mod Examples
