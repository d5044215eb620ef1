pub mod core
pub mod forms
pub mod refusals
pub mod readings
pub mod laws
pub mod examples
