pub mod AskingLemmas
pub mod ScanLemmas
