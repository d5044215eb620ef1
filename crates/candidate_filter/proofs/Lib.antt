pub mod FillLemmas
pub mod SiftLemmas
pub mod SiftContents
pub mod Sparing
pub mod Opening
pub mod Filled
pub mod Knowing
