-- Lemmas of `declarations/collector`.
pub mod Collected
