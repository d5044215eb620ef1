pub mod Lines
pub mod Replays
pub mod Audited
pub mod Laws
