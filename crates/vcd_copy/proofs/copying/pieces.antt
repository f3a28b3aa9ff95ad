-- Lemmas of `pieces`.
pub mod EndedItems
pub mod BegunItems
pub mod OneWordMore
pub mod CopiedWords
pub mod SpacedWords
pub mod StandingBytes
pub mod WordsInChunk
