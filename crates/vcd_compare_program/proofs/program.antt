-- Lemmas of `program`.
pub mod Outcomes
