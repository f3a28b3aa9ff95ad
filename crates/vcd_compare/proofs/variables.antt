-- Lemmas of `variables`.
pub mod Positions
pub mod Listed
