pub mod Frames
pub mod Starts
pub mod CodesPut
pub mod LevelLists
pub mod LevelFiles
pub mod DirectoryRecords
