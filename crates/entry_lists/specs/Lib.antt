pub mod Entries
pub mod Given
pub mod Laws
pub mod Replied
pub mod ReplyLaws
