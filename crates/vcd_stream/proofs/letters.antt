-- Lemmas of `letters`.
pub mod BlockOfValue
