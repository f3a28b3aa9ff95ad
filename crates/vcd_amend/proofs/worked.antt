-- Worked cases.
pub mod AmendedFiles
pub mod WrongTexts
