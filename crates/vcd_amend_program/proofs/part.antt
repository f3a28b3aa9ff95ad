-- Lemmas of `part`.
pub mod Outcomes
