pub mod GoodFiles
pub mod RowsMeant
pub mod RowsGiven
pub mod Lines
pub mod Ready
pub mod Held
pub mod Drawn
