-- The lemmas on answers found along the foreign keys.
pub mod Keys
pub mod Choices
pub mod Accepted
pub mod OneChoice
pub mod Rows
pub mod KnownRows
pub mod Columns
pub mod Values
pub mod KnownValues
pub mod Lines
pub mod Cells
pub mod HeardRows
pub mod Hearing
pub mod Followed
pub mod AlongKeys
