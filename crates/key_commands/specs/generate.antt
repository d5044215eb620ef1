pub mod Drawing
pub mod Counting
pub mod Ends
pub mod Preparing
pub mod Running
pub mod Results
