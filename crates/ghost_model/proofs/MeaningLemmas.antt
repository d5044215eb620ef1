-- The lemmas on databases: a database and its parts, the files that spell one, and the rows of an answer.
pub mod PartsByFlags
pub mod Rejoining
pub mod PublicPart
pub mod Loading
pub mod Picks
pub mod ByRows
pub mod OneRow
pub mod Leading
pub mod ImageLengths
