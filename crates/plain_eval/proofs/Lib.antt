pub mod LeadingWays
pub mod Gathering
pub mod Beginning
pub mod FewRows
