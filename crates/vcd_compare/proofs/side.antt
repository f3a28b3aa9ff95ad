-- Lemmas of `side`.
pub mod Chunks
pub mod ReadOn
