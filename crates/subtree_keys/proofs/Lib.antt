pub mod Records
pub mod ReadableTables
pub mod HeldTables
