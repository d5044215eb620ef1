pub mod HandingOn
pub mod Results
pub mod ToldTexts
