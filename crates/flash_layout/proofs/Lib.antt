pub mod ByPlace
pub mod PlaceLemmas
