-- Lemmas of `pairs`.
pub mod PairSteps
pub mod Changes
pub mod Listed
