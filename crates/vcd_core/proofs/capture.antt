-- Lemmas of `capture`.
pub mod Lookups
