-- Lemmas of `reporting`.
pub mod Ends
