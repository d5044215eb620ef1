pub mod Numerals
pub mod ReadRecords
pub mod KeptTexts
pub mod KeptValues
pub mod CellValues
pub mod TableRows
pub mod Judging
pub mod FieldPlaces
pub mod TakenFields
pub mod ReadRows
pub mod LoadedFiles
pub mod DeclaredColumns
pub mod CheckedKeys
pub mod Headers
pub mod AddedFiles
pub mod PartRows
pub mod SplitParts
pub mod ImageCells
pub mod RejoinedParts
mod ImageLengths
mod ImageBytes
mod WidenedSchemas
pub mod GrownRows
