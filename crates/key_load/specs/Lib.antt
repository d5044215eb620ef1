pub mod Loadings
pub mod Preparing
pub mod Results
pub mod Renaming
