pub mod Growing
pub mod FieldLists
