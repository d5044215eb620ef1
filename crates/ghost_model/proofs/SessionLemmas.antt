-- Lemmas on whole sessions.
pub mod OneJournal
pub mod Groups
pub mod Limits
pub mod SentFrames
pub mod Settings
pub mod ThisHost
pub mod Values
pub mod Whole
pub mod Accepted
pub mod Members
pub mod Combined
pub mod Front
pub mod Replied
pub mod Honest
pub mod Ended
pub mod Answered
pub mod Replies
