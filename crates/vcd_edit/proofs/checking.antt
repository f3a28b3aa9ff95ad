-- Lemmas of `checking`.
pub mod Faults
