-- Lemmas of `reading/parser`.
pub mod NextWord
pub mod SkippedCount
