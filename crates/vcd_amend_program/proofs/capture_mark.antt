-- Lemmas of `capture_mark`.
pub mod ReadSoFar
