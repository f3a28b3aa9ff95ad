-- Lemmas of `comparing`.
pub mod Scales
pub mod Meanings
pub mod Widths
pub mod ToldPairs
pub mod Failures
pub mod Windows
pub mod Concluded
pub mod Started
