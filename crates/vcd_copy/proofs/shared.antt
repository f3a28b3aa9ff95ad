-- Lemmas: shared.
pub mod StatesOfPieces
pub mod SpelledItems
pub mod CopiedPieces
pub mod CopyFaults
pub mod JoinedWords
