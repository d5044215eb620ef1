pub mod Serving
pub mod TextEnds
pub mod TextCases
pub mod HonestSessions
pub mod Local
pub mod Bounds
pub mod RowByRow
