pub mod Views
pub mod AskViews
