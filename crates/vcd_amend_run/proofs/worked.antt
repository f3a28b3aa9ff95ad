-- Worked cases.
pub mod EditedFiles
pub mod MovedChanges
pub mod OutputRemarks
pub mod WrongPrefixes
