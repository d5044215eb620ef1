pub mod IntegerCells
pub mod TextCells
pub mod CellSpelling
pub mod CellOrders
pub mod ValueOrder
