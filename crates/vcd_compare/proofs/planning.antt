-- Lemmas of `planning`.
pub mod Begun
pub mod Planned
