pub mod Writing
pub mod AskWriting
pub mod AskReading
